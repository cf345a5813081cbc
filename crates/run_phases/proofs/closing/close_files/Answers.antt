use Rattle.std.proofs.Common.{◌≡◌, [], List, length, take, ap, sym, subst, arith}
use Rattle.std.proofs.lemmas.List.{take_all}
use Rattle.script_text.specs.declared.script.Reply.{Reply}
use Rattle.stack_accept.specs.declared.entries.FileEntry.{FileEntry}
use Rattle.run_phases.specs.Closing.{FilesClosed}
use Rattle.run_phases.proofs.ClosingLaws.{closed-none, closed-more, may-still, replies-len}
use Rattle.run_phases.proofs.closing.close_files.Goals as goal

pub overflow_cast-file : goal.overflow_cast-file
overflow_cast-file g c =
    let few = c.files-file-end.ensures.sound.few_files in
    let all = ap length c.files-file-end.ensures.value in
    let lt = c.loop-file-test.true in
    omega (arith, all, few, lt)

pub loop-file-init : goal.loop-file-init
loop-file-init g c = record {
  closed = subst (λ (rs : List Reply). FilesClosed c.args.common.now.mount.now c.args.closer [] rs c.args.pass.now c.args.pass.now) (sym c.requires.empty) (closed-none c.args.common.now.mount.now c.args.closer c.args.pass.now);
  len = ap length c.requires.empty;
  room = c.requires.room;
}

pub push_reserved-requires : goal.push_reserved-requires
push_reserved-requires g c =
    let files = ap length c.files-file-end.ensures.value in
    let lt = c.loop-file-test.true in
    let len = c.loop-file.invariant.len in
    let room = c.loop-file.invariant.room in
    omega (arith, files, lt, len, room)

pub close_file-reply-requires-clause-may : goal.close_file-reply-requires-clause-may
close_file-reply-requires-clause-may g c κs within =
    may-still c.args.common.now.mount.now c.args.common.now.volume.now c.args.closer c.args.pass.now c.loop-file.pass c.loop-file.invariant.closed.pass c.requires.may

pub close_file-reply-requires-clause-file : goal.close_file-reply-requires-clause-file
close_file-reply-requires-clause-file g c κs within =
    let files = ap length c.files-file-end.ensures.value in
    let lt = c.loop-file-test.true in
    omega (arith, files, lt)

pub loop-file-preserved : goal.loop-file-preserved
loop-file-preserved g c =
    let inv = c.loop-file.invariant in
    let mount = c.args.common.now.mount.now in
    let all = ap length c.files-file-end.ensures.value in
    let lt = c.loop-file-test.true in
    let items = c.push_reserved.ensures.items in
    record {
      closed = closed-more mount c.args.closer c.loop-file.file mount.files c.loop-file.closing.items c.push_reserved.new.self.items c.close_file-reply.result c.args.pass.now c.loop-file.pass c.close_file-reply.new.pass
          (omega (arith, all, lt)) inv.len items inv.closed c.close_file-reply.ensures.done c.close_file-reply.ensures.closed c.close_file-reply.ensures.others;
      len = replies-len c.loop-file.closing.items c.push_reserved.new.self.items c.close_file-reply.result c.loop-file.file inv.len items;
      room = let r = inv.room in let k = c.push_reserved.ensures.capacity in omega (arith, r, k);
    }

pub returns-clause-closed : goal.returns-clause-closed
returns-clause-closed g c =
    let files = c.args.common.now.mount.now.files in
    let all = ap length c.files-file-end.ensures.value in
    let end = c.loop-file-test.false in
    let whole : take c.loop-file.file files ≡ files = take_all c.loop-file.file files (omega (arith, all, end)) in
    subst (λ (fs : List FileEntry). FilesClosed c.args.common.now.mount.now c.args.closer fs c.loop-file.closing.items c.args.pass.now c.loop-file.pass) whole c.loop-file.invariant.closed

pub returns-clause-len : goal.returns-clause-len
returns-clause-len g c =
    let all = ap length c.files-file-end.ensures.value in
    let end = c.loop-file-test.false in
    let upto = c.loop-file.auto.file-end in
    let len_is = c.loop-file.invariant.len in
    omega (arith, all, end, upto, len_is)
