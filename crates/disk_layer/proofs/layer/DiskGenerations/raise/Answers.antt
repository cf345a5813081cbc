use Rattle.std.proofs.Common.{◌≡◌, ◌≤◌, Option, sym, ap, ◌∙◌, subst, arith}
use Rattle.spr_io.specs.Content.{Content, written}
use Rattle.disk_format.specs.VersionOne.{header}
use Rattle.disk_layer.specs.Front.{FrontSeen, IsMap}
use Rattle.page_ground.specs.Seen.{Keeps}
use Rattle.disk_layer.specs.Disk.{Disk, IsSound, seen_of, pages_on}
use Rattle.disk_layer.proofs.SeenLaws.{calm-of}
use Rattle.disk_layer.proofs.DiskLaws.{disk_of, told_pages, sound-image, sound-same, sound-flushed, sound-header, sound-draft, pages-flushed, pages-headed, keeps-same, keeps-written, keeps-flushed}
use Rattle.disk_layer.proofs.layer.DiskGenerations.raise.Goals as goal

pub returns-in-Err-clause-image : goal.returns-in-Err-clause-image
returns-in-Err-clause-image g c =
    let d = c.self.inside in
    let f = d.front in
    let gen = d.generation in
    let s0 = d.store in
    let u = c.self.invariant.0 in
    let gen2 = c.args.generation in
    let f2 = c.draft_header.new.self in
    let h = header f.shape gen2 in
    let e : f2 ≡ record f { draft = h } = c.draft_header.ensures.header in
    let m : IsMap (record f { draft = h }) = subst IsMap e c.draft_header.ensures.map in
    let shape : f2.shape ≡ f.shape = ap (λ (v : FrontSeen). v.shape) e in
    let s1 = c.write.new.self in
    let u1 : IsSound f2 gen (g.S.Store.size s0) (g.S.Store.number s0) (g.S.Store.content s0) = subst (λ (v : FrontSeen). IsSound v gen (g.S.Store.size s0) (g.S.Store.number s0) (g.S.Store.content s0)) (sym e) (sound-draft f gen (g.S.Store.size s0) (g.S.Store.number s0) h (g.S.Store.content s0) u m) in
    sound-image f2 gen (g.S.Store.size s1) (g.S.Store.number s1) (g.S.Store.content s1) d.disk (g.S.Store.faults s1) d.opened (sound-same f2 gen (g.S.Store.size s0) (g.S.Store.number s0) (g.S.Store.size s1) (g.S.Store.number s1) (g.S.Store.content s0) (g.S.Store.content s1) u1 c.in-Err.ensures.err c.in-Err.ensures.shape)

pub returns-in-Err-clause-keeps : goal.returns-in-Err-clause-keeps
returns-in-Err-clause-keeps g c =
    let d = c.self.inside in
    let f = d.front in
    let gen = d.generation in
    let s0 = d.store in
    let u = c.self.invariant.0 in
    let gen2 = c.args.generation in
    let f2 = c.draft_header.new.self in
    let h = header f.shape gen2 in
    let e : f2 ≡ record f { draft = h } = c.draft_header.ensures.header in
    let m : IsMap (record f { draft = h }) = subst IsMap e c.draft_header.ensures.map in
    let shape : f2.shape ≡ f.shape = ap (λ (v : FrontSeen). v.shape) e in
    let s1 = c.write.new.self in
    subst (λ (v : Disk). v.generation ≤ gen2 → Keeps (seen_of v) (seen_of (disk_of f2 gen (g.S.Store.content s1) d.disk (g.S.Store.faults s1) d.opened))) c.self.view_is
    (λ le. keeps-same f f2 gen d.disk (g.S.Store.faults s0) (g.S.Store.faults s1) d.opened (g.S.Store.content s0) (g.S.Store.content s1) (record { shape = shape; later = c.in-Err.ensures.cause.later; since = c.self.invariant.1 }) c.in-Err.ensures.err)

pub invariant_of-self-in-Err-flush : goal.invariant_of-self-in-Err-flush
invariant_of-self-in-Err-flush g c =
    let d = c.self.inside in
    let f = d.front in
    let gen = d.generation in
    let s0 = d.store in
    let u = c.self.invariant.0 in
    let gen2 = c.args.generation in
    let f2 = c.draft_header.new.self in
    let h = header f.shape gen2 in
    let e : f2 ≡ record f { draft = h } = c.draft_header.ensures.header in
    let m : IsMap (record f { draft = h }) = subst IsMap e c.draft_header.ensures.map in
    let shape : f2.shape ≡ f.shape = ap (λ (v : FrontSeen). v.shape) e in
    let s1 = c.write.new.self in
    let now : c.draft.result.now ≡ h = c.draft.ensures.draft ∙ ap (λ (v : FrontSeen). v.draft) e in
    let ok : (g.S.Store.content s1) ≡ written 0 h (g.S.Store.content s0) = c.in_default.ensures.ok ∙ ap (λ l. written 0 l (g.S.Store.content s0)) now in
    let u1 : IsSound f2 gen2 (g.S.Store.size s1) (g.S.Store.number s1) (g.S.Store.content s1) =
    subst (λ (v : FrontSeen). IsSound v gen2 (g.S.Store.size s1) (g.S.Store.number s1) (g.S.Store.content s1)) (sym e)
    (sound-header f gen gen2 (g.S.Store.size s0) (g.S.Store.number s0) (g.S.Store.size s1) (g.S.Store.number s1) h (g.S.Store.content s0) (g.S.Store.content s1) u m c.requires.low c.requires.high ok c.in_default.ensures.shape) in
    let pages : told_pages f2 (g.S.Store.content s1) ≡ told_pages f (g.S.Store.content s0) =
    ap (λ (v : FrontSeen). told_pages v (g.S.Store.content s1)) e ∙ (ap (λ (v : Option Content). told_pages f v) ok ∙ pages-headed f h (g.S.Store.content s0)) in
    let s2 = c.flush.new.self in
    ((sound-same f2 gen2 (g.S.Store.size s1) (g.S.Store.number s1) (g.S.Store.size s2) (g.S.Store.number s2) (g.S.Store.content s1) (g.S.Store.content s2) u1 c.in-Err-flush.ensures.err c.in-Err-flush.ensures.shape), omega (arith, c.self.invariant.1, c.in_default.ensures.cause.later, c.in-Err-flush.ensures.cause.later))

pub returns-in-Err-flush-clause-pages : goal.returns-in-Err-flush-clause-pages
returns-in-Err-flush-clause-pages g c =
    let d = c.self.inside in
    let f = d.front in
    let gen = d.generation in
    let s0 = d.store in
    let u = c.self.invariant.0 in
    let gen2 = c.args.generation in
    let f2 = c.draft_header.new.self in
    let h = header f.shape gen2 in
    let e : f2 ≡ record f { draft = h } = c.draft_header.ensures.header in
    let m : IsMap (record f { draft = h }) = subst IsMap e c.draft_header.ensures.map in
    let shape : f2.shape ≡ f.shape = ap (λ (v : FrontSeen). v.shape) e in
    let s1 = c.write.new.self in
    let now : c.draft.result.now ≡ h = c.draft.ensures.draft ∙ ap (λ (v : FrontSeen). v.draft) e in
    let ok : (g.S.Store.content s1) ≡ written 0 h (g.S.Store.content s0) = c.in_default.ensures.ok ∙ ap (λ l. written 0 l (g.S.Store.content s0)) now in
    let u1 : IsSound f2 gen2 (g.S.Store.size s1) (g.S.Store.number s1) (g.S.Store.content s1) =
    subst (λ (v : FrontSeen). IsSound v gen2 (g.S.Store.size s1) (g.S.Store.number s1) (g.S.Store.content s1)) (sym e)
    (sound-header f gen gen2 (g.S.Store.size s0) (g.S.Store.number s0) (g.S.Store.size s1) (g.S.Store.number s1) h (g.S.Store.content s0) (g.S.Store.content s1) u m c.requires.low c.requires.high ok c.in_default.ensures.shape) in
    let pages : told_pages f2 (g.S.Store.content s1) ≡ told_pages f (g.S.Store.content s0) =
    ap (λ (v : FrontSeen). told_pages v (g.S.Store.content s1)) e ∙ (ap (λ (v : Option Content). told_pages f v) ok ∙ pages-headed f h (g.S.Store.content s0)) in
    let s2 = c.flush.new.self in
    ap (λ (v : Option Content). told_pages f2 v) c.in-Err-flush.ensures.err ∙ (pages ∙ ap pages_on c.self.view_is)

pub returns-in-Err-flush-clause-image : goal.returns-in-Err-flush-clause-image
returns-in-Err-flush-clause-image g c =
    let d = c.self.inside in
    let f = d.front in
    let gen = d.generation in
    let s0 = d.store in
    let u = c.self.invariant.0 in
    let gen2 = c.args.generation in
    let f2 = c.draft_header.new.self in
    let h = header f.shape gen2 in
    let e : f2 ≡ record f { draft = h } = c.draft_header.ensures.header in
    let m : IsMap (record f { draft = h }) = subst IsMap e c.draft_header.ensures.map in
    let shape : f2.shape ≡ f.shape = ap (λ (v : FrontSeen). v.shape) e in
    let s1 = c.write.new.self in
    let now : c.draft.result.now ≡ h = c.draft.ensures.draft ∙ ap (λ (v : FrontSeen). v.draft) e in
    let ok : (g.S.Store.content s1) ≡ written 0 h (g.S.Store.content s0) = c.in_default.ensures.ok ∙ ap (λ l. written 0 l (g.S.Store.content s0)) now in
    let u1 : IsSound f2 gen2 (g.S.Store.size s1) (g.S.Store.number s1) (g.S.Store.content s1) =
    subst (λ (v : FrontSeen). IsSound v gen2 (g.S.Store.size s1) (g.S.Store.number s1) (g.S.Store.content s1)) (sym e)
    (sound-header f gen gen2 (g.S.Store.size s0) (g.S.Store.number s0) (g.S.Store.size s1) (g.S.Store.number s1) h (g.S.Store.content s0) (g.S.Store.content s1) u m c.requires.low c.requires.high ok c.in_default.ensures.shape) in
    let pages : told_pages f2 (g.S.Store.content s1) ≡ told_pages f (g.S.Store.content s0) =
    ap (λ (v : FrontSeen). told_pages v (g.S.Store.content s1)) e ∙ (ap (λ (v : Option Content). told_pages f v) ok ∙ pages-headed f h (g.S.Store.content s0)) in
    let s2 = c.flush.new.self in
    sound-image f2 gen2 (g.S.Store.size s2) (g.S.Store.number s2) (g.S.Store.content s2) d.disk (g.S.Store.faults s2) d.opened (sound-same f2 gen2 (g.S.Store.size s1) (g.S.Store.number s1) (g.S.Store.size s2) (g.S.Store.number s2) (g.S.Store.content s1) (g.S.Store.content s2) u1 c.in-Err-flush.ensures.err c.in-Err-flush.ensures.shape)

pub returns-in-Err-flush-clause-keeps : goal.returns-in-Err-flush-clause-keeps
returns-in-Err-flush-clause-keeps g c =
    let d = c.self.inside in
    let f = d.front in
    let gen = d.generation in
    let s0 = d.store in
    let u = c.self.invariant.0 in
    let gen2 = c.args.generation in
    let f2 = c.draft_header.new.self in
    let h = header f.shape gen2 in
    let e : f2 ≡ record f { draft = h } = c.draft_header.ensures.header in
    let m : IsMap (record f { draft = h }) = subst IsMap e c.draft_header.ensures.map in
    let shape : f2.shape ≡ f.shape = ap (λ (v : FrontSeen). v.shape) e in
    let s1 = c.write.new.self in
    let now : c.draft.result.now ≡ h = c.draft.ensures.draft ∙ ap (λ (v : FrontSeen). v.draft) e in
    let ok : (g.S.Store.content s1) ≡ written 0 h (g.S.Store.content s0) = c.in_default.ensures.ok ∙ ap (λ l. written 0 l (g.S.Store.content s0)) now in
    let u1 : IsSound f2 gen2 (g.S.Store.size s1) (g.S.Store.number s1) (g.S.Store.content s1) =
    subst (λ (v : FrontSeen). IsSound v gen2 (g.S.Store.size s1) (g.S.Store.number s1) (g.S.Store.content s1)) (sym e)
    (sound-header f gen gen2 (g.S.Store.size s0) (g.S.Store.number s0) (g.S.Store.size s1) (g.S.Store.number s1) h (g.S.Store.content s0) (g.S.Store.content s1) u m c.requires.low c.requires.high ok c.in_default.ensures.shape) in
    let pages : told_pages f2 (g.S.Store.content s1) ≡ told_pages f (g.S.Store.content s0) =
    ap (λ (v : FrontSeen). told_pages v (g.S.Store.content s1)) e ∙ (ap (λ (v : Option Content). told_pages f v) ok ∙ pages-headed f h (g.S.Store.content s0)) in
    let s2 = c.flush.new.self in
    subst (λ (v : Disk). v.generation ≤ gen2 → Keeps (seen_of v) (seen_of (disk_of f2 gen2 (g.S.Store.content s2) d.disk (g.S.Store.faults s2) d.opened))) c.self.view_is
    (λ le. keeps-written f f2 gen gen2 le d.disk (g.S.Store.faults s0) (g.S.Store.faults s2) d.opened 0 h (g.S.Store.content s0) (g.S.Store.content s2) (record { shape = shape; later = omega (arith, c.self.invariant.1, c.in_default.ensures.cause.later, c.in-Err-flush.ensures.cause.later); since = c.self.invariant.1 }) (c.in-Err-flush.ensures.err ∙ ok))

pub invariant_of-self-2 : goal.invariant_of-self-2
invariant_of-self-2 g c =
    let d = c.self.inside in
    let f = d.front in
    let gen = d.generation in
    let s0 = d.store in
    let u = c.self.invariant.0 in
    let gen2 = c.args.generation in
    let f2 = c.draft_header.new.self in
    let h = header f.shape gen2 in
    let e : f2 ≡ record f { draft = h } = c.draft_header.ensures.header in
    let m : IsMap (record f { draft = h }) = subst IsMap e c.draft_header.ensures.map in
    let shape : f2.shape ≡ f.shape = ap (λ (v : FrontSeen). v.shape) e in
    let s1 = c.write.new.self in
    let now : c.draft.result.now ≡ h = c.draft.ensures.draft ∙ ap (λ (v : FrontSeen). v.draft) e in
    let ok : (g.S.Store.content s1) ≡ written 0 h (g.S.Store.content s0) = c.in_default.ensures.ok ∙ ap (λ l. written 0 l (g.S.Store.content s0)) now in
    let u1 : IsSound f2 gen2 (g.S.Store.size s1) (g.S.Store.number s1) (g.S.Store.content s1) =
    subst (λ (v : FrontSeen). IsSound v gen2 (g.S.Store.size s1) (g.S.Store.number s1) (g.S.Store.content s1)) (sym e)
    (sound-header f gen gen2 (g.S.Store.size s0) (g.S.Store.number s0) (g.S.Store.size s1) (g.S.Store.number s1) h (g.S.Store.content s0) (g.S.Store.content s1) u m c.requires.low c.requires.high ok c.in_default.ensures.shape) in
    let pages : told_pages f2 (g.S.Store.content s1) ≡ told_pages f (g.S.Store.content s0) =
    ap (λ (v : FrontSeen). told_pages v (g.S.Store.content s1)) e ∙ (ap (λ (v : Option Content). told_pages f v) ok ∙ pages-headed f h (g.S.Store.content s0)) in
    let s2 = c.flush.new.self in
    ((sound-flushed f2 gen2 (g.S.Store.size s1) (g.S.Store.number s1) (g.S.Store.size s2) (g.S.Store.number s2) (g.S.Store.content s1) (g.S.Store.content s2) u1 c.in_default-flush.ensures.ok c.in_default-flush.ensures.shape), omega (arith, c.self.invariant.1, c.in_default.ensures.cause.later, c.in_default-flush.ensures.cause.later))

pub returns-clause-pages : goal.returns-clause-pages
returns-clause-pages g c =
    let d = c.self.inside in
    let f = d.front in
    let gen = d.generation in
    let s0 = d.store in
    let u = c.self.invariant.0 in
    let gen2 = c.args.generation in
    let f2 = c.draft_header.new.self in
    let h = header f.shape gen2 in
    let e : f2 ≡ record f { draft = h } = c.draft_header.ensures.header in
    let m : IsMap (record f { draft = h }) = subst IsMap e c.draft_header.ensures.map in
    let shape : f2.shape ≡ f.shape = ap (λ (v : FrontSeen). v.shape) e in
    let s1 = c.write.new.self in
    let now : c.draft.result.now ≡ h = c.draft.ensures.draft ∙ ap (λ (v : FrontSeen). v.draft) e in
    let ok : (g.S.Store.content s1) ≡ written 0 h (g.S.Store.content s0) = c.in_default.ensures.ok ∙ ap (λ l. written 0 l (g.S.Store.content s0)) now in
    let u1 : IsSound f2 gen2 (g.S.Store.size s1) (g.S.Store.number s1) (g.S.Store.content s1) =
    subst (λ (v : FrontSeen). IsSound v gen2 (g.S.Store.size s1) (g.S.Store.number s1) (g.S.Store.content s1)) (sym e)
    (sound-header f gen gen2 (g.S.Store.size s0) (g.S.Store.number s0) (g.S.Store.size s1) (g.S.Store.number s1) h (g.S.Store.content s0) (g.S.Store.content s1) u m c.requires.low c.requires.high ok c.in_default.ensures.shape) in
    let pages : told_pages f2 (g.S.Store.content s1) ≡ told_pages f (g.S.Store.content s0) =
    ap (λ (v : FrontSeen). told_pages v (g.S.Store.content s1)) e ∙ (ap (λ (v : Option Content). told_pages f v) ok ∙ pages-headed f h (g.S.Store.content s0)) in
    let s2 = c.flush.new.self in
    ap (λ (v : Option Content). told_pages f2 v) c.in_default-flush.ensures.ok ∙ (pages-flushed f2 (g.S.Store.content s1) ∙ (pages ∙ ap pages_on c.self.view_is))

pub returns-clause-image : goal.returns-clause-image
returns-clause-image g c =
    let d = c.self.inside in
    let f = d.front in
    let gen = d.generation in
    let s0 = d.store in
    let u = c.self.invariant.0 in
    let gen2 = c.args.generation in
    let f2 = c.draft_header.new.self in
    let h = header f.shape gen2 in
    let e : f2 ≡ record f { draft = h } = c.draft_header.ensures.header in
    let m : IsMap (record f { draft = h }) = subst IsMap e c.draft_header.ensures.map in
    let shape : f2.shape ≡ f.shape = ap (λ (v : FrontSeen). v.shape) e in
    let s1 = c.write.new.self in
    let now : c.draft.result.now ≡ h = c.draft.ensures.draft ∙ ap (λ (v : FrontSeen). v.draft) e in
    let ok : (g.S.Store.content s1) ≡ written 0 h (g.S.Store.content s0) = c.in_default.ensures.ok ∙ ap (λ l. written 0 l (g.S.Store.content s0)) now in
    let u1 : IsSound f2 gen2 (g.S.Store.size s1) (g.S.Store.number s1) (g.S.Store.content s1) =
    subst (λ (v : FrontSeen). IsSound v gen2 (g.S.Store.size s1) (g.S.Store.number s1) (g.S.Store.content s1)) (sym e)
    (sound-header f gen gen2 (g.S.Store.size s0) (g.S.Store.number s0) (g.S.Store.size s1) (g.S.Store.number s1) h (g.S.Store.content s0) (g.S.Store.content s1) u m c.requires.low c.requires.high ok c.in_default.ensures.shape) in
    let pages : told_pages f2 (g.S.Store.content s1) ≡ told_pages f (g.S.Store.content s0) =
    ap (λ (v : FrontSeen). told_pages v (g.S.Store.content s1)) e ∙ (ap (λ (v : Option Content). told_pages f v) ok ∙ pages-headed f h (g.S.Store.content s0)) in
    let s2 = c.flush.new.self in
    sound-image f2 gen2 (g.S.Store.size s2) (g.S.Store.number s2) (g.S.Store.content s2) d.disk (g.S.Store.faults s2) d.opened (sound-flushed f2 gen2 (g.S.Store.size s1) (g.S.Store.number s1) (g.S.Store.size s2) (g.S.Store.number s2) (g.S.Store.content s1) (g.S.Store.content s2) u1 c.in_default-flush.ensures.ok c.in_default-flush.ensures.shape)

pub returns-clause-keeps : goal.returns-clause-keeps
returns-clause-keeps g c =
    let d = c.self.inside in
    let f = d.front in
    let gen = d.generation in
    let s0 = d.store in
    let u = c.self.invariant.0 in
    let gen2 = c.args.generation in
    let f2 = c.draft_header.new.self in
    let h = header f.shape gen2 in
    let e : f2 ≡ record f { draft = h } = c.draft_header.ensures.header in
    let m : IsMap (record f { draft = h }) = subst IsMap e c.draft_header.ensures.map in
    let shape : f2.shape ≡ f.shape = ap (λ (v : FrontSeen). v.shape) e in
    let s1 = c.write.new.self in
    let now : c.draft.result.now ≡ h = c.draft.ensures.draft ∙ ap (λ (v : FrontSeen). v.draft) e in
    let ok : (g.S.Store.content s1) ≡ written 0 h (g.S.Store.content s0) = c.in_default.ensures.ok ∙ ap (λ l. written 0 l (g.S.Store.content s0)) now in
    let u1 : IsSound f2 gen2 (g.S.Store.size s1) (g.S.Store.number s1) (g.S.Store.content s1) =
    subst (λ (v : FrontSeen). IsSound v gen2 (g.S.Store.size s1) (g.S.Store.number s1) (g.S.Store.content s1)) (sym e)
    (sound-header f gen gen2 (g.S.Store.size s0) (g.S.Store.number s0) (g.S.Store.size s1) (g.S.Store.number s1) h (g.S.Store.content s0) (g.S.Store.content s1) u m c.requires.low c.requires.high ok c.in_default.ensures.shape) in
    let pages : told_pages f2 (g.S.Store.content s1) ≡ told_pages f (g.S.Store.content s0) =
    ap (λ (v : FrontSeen). told_pages v (g.S.Store.content s1)) e ∙ (ap (λ (v : Option Content). told_pages f v) ok ∙ pages-headed f h (g.S.Store.content s0)) in
    let s2 = c.flush.new.self in
    subst (λ (v : Disk). v.generation ≤ gen2 → Keeps (seen_of v) (seen_of (disk_of f2 gen2 (g.S.Store.content s2) d.disk (g.S.Store.faults s2) d.opened))) c.self.view_is
    (λ le. keeps-flushed f f2 gen gen2 le (g.S.Store.size s1) (g.S.Store.number s1) d.disk (g.S.Store.faults s0) (g.S.Store.faults s2) d.opened (g.S.Store.content s0) (g.S.Store.content s1) (g.S.Store.content s2) (record { shape = shape; later = omega (arith, c.self.invariant.1, c.in_default.ensures.cause.later, c.in_default-flush.ensures.cause.later); since = c.self.invariant.1 }) u1 pages c.in_default-flush.ensures.ok)

pub returns-clause-calm : goal.returns-clause-calm
returns-clause-calm g c =
    let d = c.self.inside in
    let s2 = c.flush.new.self in
    calm-of c.args.self.now (disk_of c.draft_header.new.self c.args.generation (g.S.Store.content s2) d.disk (g.S.Store.faults s2) d.opened) (ap (λ (v : Disk). v.disk) c.self.view_is) (c.in_default-flush.ensures.calm ∙ (c.in_default.ensures.calm ∙ ap (λ (v : Disk). v.faults) c.self.view_is))
