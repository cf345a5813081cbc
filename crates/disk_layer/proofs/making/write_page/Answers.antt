use Rattle.std.proofs.Common.{◌≡◌, ◌≢◌, ◌≤◌, ◌<◌, ◌+◌, Option, Result, Ok, Err, OnErr, get_or, sym, ap, ◌∙◌, subst, arith}
use Rattle.spr_io.specs.Content.{Content, written}
use Rattle.disk_format.specs.Shape.{first_data, blocks_of}
use Rattle.disk_format.specs.VersionOne.{with_entry}
use Rattle.disk_layer.specs.Front.{FrontSeen, IsMap, entries_on, part_of, part}
use Rattle.disk_layer.specs.Disk.{IsMapped, pages_named}
use Rattle.disk_layer.proofs.PartLaws.{place}
use Rattle.disk_layer.proofs.FreeLaws.{in-at}
use Rattle.disk_layer.proofs.FrontLaws.{many-entries, entry-block, map-named}
use Rattle.disk_layer.proofs.MappedLaws.{mapped-data, mapped-named, placed-pages, unnamed-pages, filled-pages}
use Rattle.disk_layer.proofs.making.write_page.Goals as goal

on-err : {T E P : Type 0} (r : Result T E) → P → OnErr r P
on-err (Ok x) p = tt
on-err (Err e) p = p

pub write-requires-clause-block : goal.write-requires-clause-block
write-requires-clause-block g c =
    let f = c.args.front.now in
    let s0 = c.args.store.now in
    let u = c.requires.mapped in
    let page = c.args.page in
    let lt = c.requires.page in
    let e = c.entry-entry.ensures.entry in
    let x = c.args.bytes.now in
    let entry = c.entry-entry.result in
    let ne : get_or (entries_on f) page 0 ≢ 0 = λ z. c.if-entry-ne0.true (e ∙ z) in
    let n = entry-block f page u.map lt ne in
    let low : first_data f.shape ≤ entry = omega (arith, n.low, e) in
    let high : entry < blocks_of f.shape = omega (arith, n.high, e) in
    omega (arith, high, u.suits.number)

pub returns-then-entry-ne0-clause-ok : goal.returns-then-entry-ne0-clause-ok
returns-then-entry-ne0-clause-ok g c =
    let f = c.args.front.now in
    let s0 = c.args.store.now in
    let u = c.requires.mapped in
    let page = c.args.page in
    let lt = c.requires.page in
    let e = c.entry-entry.ensures.entry in
    let x = c.args.bytes.now in
    let entry = c.entry-entry.result in
    let ne : get_or (entries_on f) page 0 ≢ 0 = λ z. c.if-entry-ne0.true (e ∙ z) in
    let n = entry-block f page u.map lt ne in
    let low : first_data f.shape ≤ entry = omega (arith, n.low, e) in
    let high : entry < blocks_of f.shape = omega (arith, n.high, e) in
    ap (λ (v : Option Content). pages_named f v) c.in_ok-write.ensures.ok
    ∙ placed-pages f (g.S.Store.size s0) (g.S.Store.number s0) page entry x (g.S.Store.content s0) u lt (sym e) c.if-entry-ne0.true high

pub free_block-block-requires : goal.free_block-block-requires
free_block-block-requires g c =
    let f = c.args.front.now in
    let e = c.entry-entry.ensures.entry in
    in-at (entries_on f) c.args.page 0 (omega (arith, many-entries f, c.requires.page)) (sym e ∙ c.if-entry-ne0.false)

pub write-requires-3-clause-block : goal.write-requires-3-clause-block
write-requires-3-clause-block g c =
    let f = c.args.front.now in
    let s0 = c.args.store.now in
    let u = c.requires.mapped in
    let page = c.args.page in
    let lt = c.requires.page in
    let x = c.args.bytes.now in
    let block = c.free_block-block.result in
    let f1 = c.free_block-block.new.self in
    let same : f1 ≡ f = c.free_block-block.ensures.same in
    let free = c.free_block-block.ensures.lowest in
    let s2 = c.write-2.new.self in
    let draft = part f.shape (part_of f.shape page) (with_entry f.map page block) in
    let u2 : IsMapped f (g.S.Store.size s2) (g.S.Store.number s2) (g.S.Store.content s2) = mapped-data f (g.S.Store.size s0) (g.S.Store.number s0) (g.S.Store.size s2) (g.S.Store.number s2) block x (g.S.Store.content s0) (g.S.Store.content s2) u free.least c.in_ok-write-2.ensures.ok c.in_ok-write-2.ensures.shape in
    let f3 = c.draft_part.new.self in
    let e3 : f3 ≡ record f { draft = draft } =
    c.draft_part.ensures.part ∙ ap (λ (v : FrontSeen). record v { draft = part v.shape (part_of v.shape page) (with_entry v.map page block) }) same in
    let at : c.part_of.result ≡ 1 + part_of f.shape page = c.part_of.ensures ∙ ap (λ (v : FrontSeen). 1 + part_of v.shape page) e3 in
    let w = place f.shape page u.map.fit lt in
    omega (arith, at, w.part, u2.suits.number)

pub returns-then-entry-ne0-clause-mapped : goal.returns-then-entry-ne0-clause-mapped
returns-then-entry-ne0-clause-mapped g c =
    let f = c.args.front.now in
    let s0 = c.args.store.now in
    let u = c.requires.mapped in
    let page = c.args.page in
    let lt = c.requires.page in
    let e = c.entry-entry.ensures.entry in
    let x = c.args.bytes.now in
    let entry = c.entry-entry.result in
    let ne : get_or (entries_on f) page 0 ≢ 0 = λ z. c.if-entry-ne0.true (e ∙ z) in
    let n = entry-block f page u.map lt ne in
    let low : first_data f.shape ≤ entry = omega (arith, n.low, e) in
    let high : entry < blocks_of f.shape = omega (arith, n.high, e) in
    let s2 = c.write.new.self in
    mapped-data f (g.S.Store.size s0) (g.S.Store.number s0) (g.S.Store.size s2) (g.S.Store.number s2) entry x (g.S.Store.content s0) (g.S.Store.content s2) u low c.in_ok-write.ensures.ok c.in_ok-write.ensures.shape

pub returns-in_err-write-3-clause-err : goal.returns-in_err-write-3-clause-err
returns-in_err-write-3-clause-err g c =
    let f = c.args.front.now in
    let s0 = c.args.store.now in
    let u = c.requires.mapped in
    let page = c.args.page in
    let lt = c.requires.page in
    let x = c.args.bytes.now in
    let block = c.free_block-block.result in
    let f1 = c.free_block-block.new.self in
    let same : f1 ≡ f = c.free_block-block.ensures.same in
    let free = c.free_block-block.ensures.lowest in
    let s2 = c.write-2.new.self in
    let draft = part f.shape (part_of f.shape page) (with_entry f.map page block) in
    let u2 : IsMapped f (g.S.Store.size s2) (g.S.Store.number s2) (g.S.Store.content s2) = mapped-data f (g.S.Store.size s0) (g.S.Store.number s0) (g.S.Store.size s2) (g.S.Store.number s2) block x (g.S.Store.content s0) (g.S.Store.content s2) u free.least c.in_ok-write-2.ensures.ok c.in_ok-write-2.ensures.shape in
    let f3 = c.draft_part.new.self in
    let e3 : f3 ≡ record f { draft = draft } =
    c.draft_part.ensures.part ∙ ap (λ (v : FrontSeen). record v { draft = part v.shape (part_of v.shape page) (with_entry v.map page block) }) same in
    let s4 = c.write-3.new.self in
    on-err c.from_residual-in_err-write-3.result
    (ap (λ (v : Option Content). pages_named f3 v) c.in_err-write-3.ensures.err
    ∙ (ap (λ (v : FrontSeen). pages_named v (g.S.Store.content s2)) e3 ∙ (ap (λ (v : Option Content). pages_named f v) c.in_ok-write-2.ensures.ok ∙ unnamed-pages f block x (g.S.Store.content s0) free.free)))

pub returns-clause-ok : goal.returns-clause-ok
returns-clause-ok g c =
    let f = c.args.front.now in
    let s0 = c.args.store.now in
    let u = c.requires.mapped in
    let page = c.args.page in
    let lt = c.requires.page in
    let x = c.args.bytes.now in
    let block = c.free_block-block.result in
    let f1 = c.free_block-block.new.self in
    let same : f1 ≡ f = c.free_block-block.ensures.same in
    let free = c.free_block-block.ensures.lowest in
    let s2 = c.write-2.new.self in
    let draft = part f.shape (part_of f.shape page) (with_entry f.map page block) in
    let u2 : IsMapped f (g.S.Store.size s2) (g.S.Store.number s2) (g.S.Store.content s2) = mapped-data f (g.S.Store.size s0) (g.S.Store.number s0) (g.S.Store.size s2) (g.S.Store.number s2) block x (g.S.Store.content s0) (g.S.Store.content s2) u free.least c.in_ok-write-2.ensures.ok c.in_ok-write-2.ensures.shape in
    let f3 = c.draft_part.new.self in
    let e3 : f3 ≡ record f { draft = draft } =
    c.draft_part.ensures.part ∙ ap (λ (v : FrontSeen). record v { draft = part v.shape (part_of v.shape page) (with_entry v.map page block) }) same in
    let s4 = c.write-3.new.self in
    let at : c.part_of.result ≡ 1 + part_of f.shape page = c.part_of.ensures ∙ ap (λ (v : FrontSeen). 1 + part_of v.shape page) e3 in
    let now : c.draft.result.now ≡ draft = c.draft.ensures.draft ∙ ap (λ (v : FrontSeen). v.draft) e3 in
    let ok2 : (g.S.Store.content s2) ≡ written block x (g.S.Store.content s0) = c.in_ok-write-2.ensures.ok in
    let ok4 : (g.S.Store.content s4) ≡ written (1 + part_of f.shape page) draft (g.S.Store.content s2) =
    c.in_ok-write-3.ensures.ok ∙ (ap (λ k. written k c.draft.result.now (g.S.Store.content s2)) at ∙ ap (λ l. written (1 + part_of f.shape page) l (g.S.Store.content s2)) now) in
    let f4 = c.name.new.self in
    let e4 : f4 ≡ record f { draft = draft; map = with_entry f.map page block } =
    c.name.ensures.named ∙ ap (λ (v : FrontSeen). record v { map = with_entry v.map page block }) e3 in
    let n = map-named f page block u.map lt free.least free.most free.free in
    ap (λ (v : FrontSeen). pages_named v (g.S.Store.content s4)) e4
    ∙ (ap (λ (v : Option Content). pages_named (record f { map = with_entry f.map page block }) v) (ok4 ∙ ap (λ (v : Option Content). written (1 + part_of f.shape page) draft v) ok2)
    ∙ filled-pages f (g.S.Store.size s0) (g.S.Store.number s0) page block x draft (g.S.Store.content s0) u lt free.least free.most free.free n.entries n.map.good)

pub returns-clause-mapped : goal.returns-clause-mapped
returns-clause-mapped g c =
    let f = c.args.front.now in
    let s0 = c.args.store.now in
    let u = c.requires.mapped in
    let page = c.args.page in
    let lt = c.requires.page in
    let x = c.args.bytes.now in
    let block = c.free_block-block.result in
    let f1 = c.free_block-block.new.self in
    let same : f1 ≡ f = c.free_block-block.ensures.same in
    let free = c.free_block-block.ensures.lowest in
    let s2 = c.write-2.new.self in
    let draft = part f.shape (part_of f.shape page) (with_entry f.map page block) in
    let u2 : IsMapped f (g.S.Store.size s2) (g.S.Store.number s2) (g.S.Store.content s2) = mapped-data f (g.S.Store.size s0) (g.S.Store.number s0) (g.S.Store.size s2) (g.S.Store.number s2) block x (g.S.Store.content s0) (g.S.Store.content s2) u free.least c.in_ok-write-2.ensures.ok c.in_ok-write-2.ensures.shape in
    let f3 = c.draft_part.new.self in
    let e3 : f3 ≡ record f { draft = draft } =
    c.draft_part.ensures.part ∙ ap (λ (v : FrontSeen). record v { draft = part v.shape (part_of v.shape page) (with_entry v.map page block) }) same in
    let s4 = c.write-3.new.self in
    let at : c.part_of.result ≡ 1 + part_of f.shape page = c.part_of.ensures ∙ ap (λ (v : FrontSeen). 1 + part_of v.shape page) e3 in
    let now : c.draft.result.now ≡ draft = c.draft.ensures.draft ∙ ap (λ (v : FrontSeen). v.draft) e3 in
    let ok2 : (g.S.Store.content s2) ≡ written block x (g.S.Store.content s0) = c.in_ok-write-2.ensures.ok in
    let ok4 : (g.S.Store.content s4) ≡ written (1 + part_of f.shape page) draft (g.S.Store.content s2) =
    c.in_ok-write-3.ensures.ok ∙ (ap (λ k. written k c.draft.result.now (g.S.Store.content s2)) at ∙ ap (λ l. written (1 + part_of f.shape page) l (g.S.Store.content s2)) now) in
    let f4 = c.name.new.self in
    let e4 : f4 ≡ record f { draft = draft; map = with_entry f.map page block } =
    c.name.ensures.named ∙ ap (λ (v : FrontSeen). record v { map = with_entry v.map page block }) e3 in
    subst (λ (v : FrontSeen). IsMapped v (g.S.Store.size s4) (g.S.Store.number s4) (g.S.Store.content s4)) (sym e4)
    (mapped-named f (g.S.Store.size s2) (g.S.Store.number s2) (g.S.Store.size s4) (g.S.Store.number s4) page block draft (g.S.Store.content s2) (g.S.Store.content s4) u2 (subst IsMap e4 c.name.ensures.map) lt ok4 c.in_ok-write-3.ensures.shape)
