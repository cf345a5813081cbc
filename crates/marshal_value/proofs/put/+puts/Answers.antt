use Rattle.std.proofs.Common.{◌≡◌, length, ◌+◌, drop, ap, sym, subst, refl, arith}
use Rattle.marshal_buf.specs.Held.{Puts}
use Rattle.marshal_value.specs.Tree.{Tree, Trees, tree_of, trees_of}
use Rattle.marshal_value.specs.Spelling.{count, spelling, spelling_of_all, size_of, size_of_all, doors_of, doors_of_all, HasSpelling, HaveSpelling}
use Rattle.marshal_value.specs.Room.{HasRoom}
use Rattle.marshal_value.proofs.Trees.{at_sequence, at_struct, weight, weight_inside, trees_drop, trees_drop_end, count-trees_of}
use Rattle.marshal_value.proofs.Puts.{Puts-nothing, Puts_sequence, HasRoom_sequence, Puts_first, HasRoom_first, HasRoom_others}
use Rattle.marshal_value.proofs.put.+puts.Goals as goal

pub put_one-overflow_cast-len : goal.put_one-overflow_cast-len
put_one-overflow_cast-len t c =
    let tree = at_sequence c.args.value.now c.in-Sequence.items c.in-Sequence.items.items c.in-Sequence.is refl in
    let fits = subst HasSpelling tree c.requires.fits in
    omega (arith, fits.0, count-trees_of c.in-Sequence.items.items, c.in-Sequence.items.ok.0, c.len.ensures)

pub put_one-put_all-requires-in-Struct : goal.put_one-put_all-requires-in-Struct
put_one-put_all-requires-in-Struct t c =
    let tree = at_struct c.args.value.now c.in-Struct.fields c.deref-in-Struct.result.now c.in-Struct.is c.deref-in-Struct.ensures.value in
    (omega (arith, ap weight tree), (subst HasSpelling tree c.requires.fits, subst (λ (v : Tree). HasRoom (size_of v) (length (doors_of v)) c.args.buf.now) tree c.requires.room))

pub put_one-put_all-requires : goal.put_one-put_all-requires
put_one-put_all-requires t c =
    let tree = at_sequence c.args.value.now c.in-Sequence.items c.deref.result.now c.in-Sequence.is c.deref.ensures.value in
    let room = subst (λ (v : Tree). HasRoom (size_of v) (length (doors_of v)) c.args.buf.now) tree c.requires.room in
    (omega (arith, ap weight tree), ((subst HasSpelling tree c.requires.fits).1, HasRoom_sequence c.len.result (trees_of c.deref.result.now) c.args.buf.now c.put_u32-in-Sequence.new.self room c.in_ok-put_u32-in-Sequence.ensures.ok))

pub put_one-returns-in_ok-put_u32-in-Sequence-clause-put : goal.put_one-returns-in_ok-put_u32-in-Sequence-clause-put
put_one-returns-in_ok-put_u32-in-Sequence-clause-put t c =
    let tree = at_sequence c.args.value.now c.in-Sequence.items c.deref.result.now c.in-Sequence.is c.deref.ensures.value in
    let many : c.len.result ≡ count (trees_of c.deref.result.now) = omega (arith, c.len.ensures, c.deref.ensures.len, count-trees_of c.deref.result.now) in
    subst (λ (v : Tree). Puts (spelling (length c.args.buf.now.doors) v) (doors_of v) c.args.buf.now c.put_all.new.buf) (sym tree)
    (Puts_sequence c.len.result (trees_of c.deref.result.now) c.args.buf.now c.put_u32-in-Sequence.new.self c.put_all.new.buf many c.in_ok-put_u32-in-Sequence.ensures.ok c.put_all.ensures.put)

pub put_one-returns-in-Struct-clause-put : goal.put_one-returns-in-Struct-clause-put
put_one-returns-in-Struct-clause-put t c =
    let tree = at_struct c.args.value.now c.in-Struct.fields c.deref-in-Struct.result.now c.in-Struct.is c.deref-in-Struct.ensures.value in
    subst (λ (v : Tree). Puts (spelling (length c.args.buf.now.doors) v) (doors_of v) c.args.buf.now c.put_all-in-Struct.new.buf) (sym tree) c.put_all-in-Struct.ensures.put

pub put_all-put_one-requires : goal.put_all-put_one-requires
put_all-put_one-requires t c =
    let inside = weight_inside c.args.values.now c.loop-value.value-index c.value-item.result c.loop-value-test.true c.value-item.is in
    let first = trees_drop c.args.values.now c.loop-value.value-index c.value-item.result c.loop-value-test.true c.value-item.is in
    let others = trees_of (drop (c.loop-value.value-index + 1) c.args.values.now) in
    let room = subst (λ (vs : Trees). HasRoom (size_of_all vs) (length (doors_of_all vs)) c.loop-value.buf) first c.loop-value.invariant.room in
    (omega (arith, inside), ((subst HaveSpelling first c.loop-value.invariant.fit).0, HasRoom_first (tree_of c.value-item.result) others c.loop-value.buf room))

pub put_all-loop-value-preserved : goal.put_all-loop-value-preserved
put_all-loop-value-preserved t c =
    let first = trees_drop c.args.values.now c.loop-value.value-index c.value-item.result c.loop-value-test.true c.value-item.is in
    let others = trees_of (drop (c.loop-value.value-index + 1) c.args.values.now) in
    let room = subst (λ (vs : Trees). HasRoom (size_of_all vs) (length (doors_of_all vs)) c.loop-value.buf) first c.loop-value.invariant.room in
    record {
      fit = (subst HaveSpelling first c.loop-value.invariant.fit).1;
      room = HasRoom_others (tree_of c.value-item.result) others c.loop-value.buf c.put_one.new.buf room c.put_one.ensures.put;
      put = λ end p. c.loop-value.invariant.put end
          (subst (λ (vs : Trees). Puts (spelling_of_all (length c.loop-value.buf.doors) vs) (doors_of_all vs) c.loop-value.buf end) (sym first)
          (Puts_first (tree_of c.value-item.result) others c.loop-value.buf c.put_one.new.buf end c.put_one.ensures.put p));
    }

pub put_all-returns-clause-put : goal.put_all-returns-clause-put
put_all-returns-clause-put t c =
    let end = trees_drop_end c.args.values.now c.loop-value.value-index c.loop-value-test.false in
    c.loop-value.invariant.put c.loop-value.buf
    (subst (λ (vs : Trees). Puts (spelling_of_all (length c.loop-value.buf.doors) vs) (doors_of_all vs) c.loop-value.buf c.loop-value.buf) (sym end) (Puts-nothing c.loop-value.buf))
