use Rattle.std.proofs.Common.{◌≡◌, ◌⊎◌, sym, ap, ◌∙◌, subst}
use Rattle.spr_io.specs.Content.{written, flushed}
use Rattle.disk_format.specs.VersionOne.{header}
use Rattle.disk_layer.specs.Front.{FrontSeen, IsMap, entries_on}
use Rattle.disk_layer.specs.Disk.{IsSound, IsBlank, pages_on}
use Rattle.disk_layer.specs.Making.{Making, IsBlankOrMade, pages_made, made_disk}
use Rattle.disk_layer.proofs.DiskLaws.{pages-flushed, pages-headed}
use Rattle.disk_layer.proofs.MappedLaws.{keeps-suits}
use Rattle.disk_layer.proofs.MakingLaws.{Left, sound-ended, whole-or-blank}
use Rattle.disk_layer.proofs.making.Making.end.Goals as goal

pub over-requires-after_bounds : goal.over-requires-after_bounds
over-requires-after_bounds g c κs within =
    let f = c.self.inside.front in
    let f2 = c.draft_header.new.self in
    let s0 = c.self.inside.store in
    let s2 = c.write_last.new.store in
    let u = c.self.invariant in
    let gen = c.args.generation in
    let before = g.S.Store.content s0 in
    let after = g.S.Store.content s2 in
    let h = header f.shape gen in
    let e : f2 ≡ record f { draft = h } = c.draft_header.ensures.header in
    let now : c.draft.result.now ≡ h = c.draft.ensures.draft ∙ ap (λ (v : FrontSeen). v.draft) e in
    let ok : after ≡ flushed (written 0 h before) = c.in-Ok.ensures.ok ∙ ap (λ l. flushed (written 0 l before)) now in
    subst (λ (v : FrontSeen). IsSound v gen (g.S.Store.size s2) (g.S.Store.number s2) after) (sym e)
    (sound-ended f gen (g.S.Store.size s0) (g.S.Store.number s0) (g.S.Store.size s2) (g.S.Store.number s2) h before after u (subst IsMap e c.draft_header.ensures.map) c.requires.low c.requires.high ok c.in-Ok.ensures.shape)

pub returns-in-Ok-clause-ok : goal.returns-in-Ok-clause-ok
returns-in-Ok-clause-ok g c =
    let f = c.self.inside.front in
    let f2 = c.draft_header.new.self in
    let s0 = c.self.inside.store in
    let s2 = c.write_last.new.store in
    let u = c.self.invariant in
    let gen = c.args.generation in
    let before = g.S.Store.content s0 in
    let after = g.S.Store.content s2 in
    let h = header f.shape gen in
    let e : f2 ≡ record f { draft = h } = c.draft_header.ensures.header in
    let now : c.draft.result.now ≡ h = c.draft.ensures.draft ∙ ap (λ (v : FrontSeen). v.draft) e in
    let ok : after ≡ flushed (written 0 h before) = c.in-Ok.ensures.ok ∙ ap (λ l. flushed (written 0 l before)) now in
    let calm : g.S.Store.faults s2 ≡ g.S.Store.faults s0 = c.in-Ok.ensures.calm in
    let m : Making = record { disk = c.self.inside.disk; shape = f.shape; entries = entries_on f; content = before; faults = g.S.Store.faults s0 } in
    let made : c.over.result ≡ made_disk gen m =
    c.over.ensures.disk ∙ (λ i. record { disk = c.self.inside.disk; shape = (e i).shape; generation = gen; entries = entries_on (e i); content = ok i; faults = calm i; opened = calm i }) in
    made ∙ ap (λ (v : Making). made_disk gen v) c.self.view_is

pub returns-in-Ok-clause-pages : goal.returns-in-Ok-clause-pages
returns-in-Ok-clause-pages g c =
    let f = c.self.inside.front in
    let f2 = c.draft_header.new.self in
    let s0 = c.self.inside.store in
    let s2 = c.write_last.new.store in
    let u = c.self.invariant in
    let gen = c.args.generation in
    let before = g.S.Store.content s0 in
    let after = g.S.Store.content s2 in
    let h = header f.shape gen in
    let e : f2 ≡ record f { draft = h } = c.draft_header.ensures.header in
    let now : c.draft.result.now ≡ h = c.draft.ensures.draft ∙ ap (λ (v : FrontSeen). v.draft) e in
    let ok : after ≡ flushed (written 0 h before) = c.in-Ok.ensures.ok ∙ ap (λ l. flushed (written 0 l before)) now in
    let calm : g.S.Store.faults s2 ≡ g.S.Store.faults s0 = c.in-Ok.ensures.calm in
    let m : Making = record { disk = c.self.inside.disk; shape = f.shape; entries = entries_on f; content = before; faults = g.S.Store.faults s0 } in
    let made : c.over.result ≡ made_disk gen m =
    c.over.ensures.disk ∙ (λ i. record { disk = c.self.inside.disk; shape = (e i).shape; generation = gen; entries = entries_on (e i); content = ok i; faults = calm i; opened = calm i }) in
    ap pages_on made ∙ (pages-flushed f (written 0 h before) ∙ (pages-headed f h before ∙ ap pages_made c.self.view_is))

pub returns-in-Err-clause-whole : goal.returns-in-Err-clause-whole
returns-in-Err-clause-whole g c =
    let f = c.self.inside.front in
    let f2 = c.draft_header.new.self in
    let s0 = c.self.inside.store in
    let s2 = c.write_last.new.store in
    let u = c.self.invariant in
    let gen = c.args.generation in
    let before = g.S.Store.content s0 in
    let after = g.S.Store.content s2 in
    let h = header f.shape gen in
    let e : f2 ≡ record f { draft = h } = c.draft_header.ensures.header in
    let now : c.draft.result.now ≡ h = c.draft.ensures.draft ∙ ap (λ (v : FrontSeen). v.draft) e in
    let k = keeps-suits f (g.S.Store.size s0) (g.S.Store.number s0) (g.S.Store.size s2) (g.S.Store.number s2) after u.suits c.in-Err.ensures.shape in
    let left : Left f.shape gen before after = subst (λ l. (after ≡ before) ⊎ ((after ≡ flushed before) ⊎ (after ≡ written 0 l (flushed before)))) now c.in-Err.ensures.err in
    subst (λ (v : Making). IsBlank v.content → IsBlankOrMade gen v after) c.self.view_is
    (λ blank. whole-or-blank f gen (g.S.Store.size s0) (g.S.Store.number s0) before after u c.requires.low c.requires.high k.told left blank)
