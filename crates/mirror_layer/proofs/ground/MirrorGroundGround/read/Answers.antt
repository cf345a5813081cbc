use Rattle.std.proofs.Common.{◌≡◌, ◌<◌, ℕ, Bool, List, length, sym, refl, subst, ap, ◌∙◌}
use Rattle.std.specs.Prelude.{OnOk, IfErr}
use Rattle.page_ground.specs.Seen.{Keeps, IsCalm, IsFault, ReadsPage}
use Rattle.mirror_rules.specs.Tree.{Image, Tree, seats}
use Rattle.mirror_rules.specs.Steps.{Look}
use Rattle.mirror_rules.specs.Guards.{Medium, Guarding}
use Rattle.mirror_rules.specs.History.{Since_then}
use Rattle.mirror_rules.proofs.GuardLaws.{guards-look}
use Rattle.mirror_rules.proofs.RoundLaws.{live-tree}
use Rattle.mirror_layer.specs.View.{Beside, tree_of, beside_in}
use Rattle.mirror_layer.specs.Calls.{answered}
use Rattle.mirror_layer.specs.Ground.{Ground, seen_of}
use Rattle.mirror_layer.proofs.GroundLaws.{ground, moved, moved-one, has-pages, after-read, read-same, read-looks, read-bytes, read-calms, read-faults}
use Rattle.mirror_layer.proofs.ground.MirrorGroundGround.read.Goals as goal

pub read-requires-clause-live : goal.read-requires-clause-live
read-requires-clause-live g c = live-tree (tree_of c.self.inside.node) c.self.invariant.live

pub read-requires-clause-suits : goal.read-requires-clause-suits
read-requires-clause-suits g c = has-pages c.self.inside.shape c.args.page (length c.args.out.now) c.self.inside.node c.self.invariant.shapes (subst (λ (v : Ground). c.args.page < v.shape.pages) (sym c.self.view_is) c.requires.page) (c.requires.size ∙ ap (λ (v : Ground). v.shape.page_size) (sym c.self.view_is))

pub returns-clause-bytes : goal.returns-clause-bytes
returns-clause-bytes g c =
    let d = c.self.inside in
    let i = c.self.invariant in
    let e = c.self.view_is in
    let bs : List Beside = beside_in d.node in
    let t : Tree = tree_of d.node in
    let G : Ground = ground d.shape d.owed d.level (seats t) bs in
    let r = c.read.result in
    let u : Tree = tree_of c.read.new.node in
    let b = c.read.ensures.beside in
    let p = c.args.page in
    let out = c.read.new.out in
    let h = c.read.ensures.taken in
    let f = c.read.ensures.refused in
    let k = read-looks r p out t u bs h f in
    let l : c.args.page < c.self.inside.shape.pages = subst (λ (v : Ground). c.args.page < v.shape.pages) (sym c.self.view_is) c.requires.page in
    subst (λ v. OnOk r (ReadsPage (seen_of v).pages p out)) e (read-bytes r d.shape d.owed d.level bs t u p out i l h)

pub returns-clause-same : goal.returns-clause-same
returns-clause-same g c =
    let d = c.self.inside in
    let i = c.self.invariant in
    let e = c.self.view_is in
    let bs : List Beside = beside_in d.node in
    let t : Tree = tree_of d.node in
    let G : Ground = ground d.shape d.owed d.level (seats t) bs in
    let r = c.read.result in
    let u : Tree = tree_of c.read.new.node in
    let b = c.read.ensures.beside in
    let p = c.args.page in
    let out = c.read.new.out in
    let h = c.read.ensures.taken in
    let f = c.read.ensures.refused in
    let k = read-looks r p out t u bs h f in
    moved {shape = d.shape} {q = d.owed} {n = d.level} {u = seats u} {bs = bs} (λ a h. (seen_of h).pages ≡ (seen_of a).pages) e b (read-same G (seats u) i k.1)

pub returns-clause-keeps : goal.returns-clause-keeps
returns-clause-keeps g c =
    let d = c.self.inside in
    let i = c.self.invariant in
    let e = c.self.view_is in
    let bs : List Beside = beside_in d.node in
    let t : Tree = tree_of d.node in
    let G : Ground = ground d.shape d.owed d.level (seats t) bs in
    let r = c.read.result in
    let u : Tree = tree_of c.read.new.node in
    let b = c.read.ensures.beside in
    let p = c.args.page in
    let out = c.read.new.out in
    let h = c.read.ensures.taken in
    let f = c.read.ensures.refused in
    let k = read-looks r p out t u bs h f in
    moved {shape = d.shape} {q = d.owed} {n = d.level} {u = seats u} {bs = bs} (λ a h. Keeps (seen_of a) (seen_of h)) e b (after-read G (seats u) i k.1).keeps

pub returns-clause-calm : goal.returns-clause-calm
returns-clause-calm g c =
    let d = c.self.inside in
    let i = c.self.invariant in
    let e = c.self.view_is in
    let bs : List Beside = beside_in d.node in
    let t : Tree = tree_of d.node in
    let G : Ground = ground d.shape d.owed d.level (seats t) bs in
    let r = c.read.result in
    let u : Tree = tree_of c.read.new.node in
    let b = c.read.ensures.beside in
    let p = c.args.page in
    let out = c.read.new.out in
    let h = c.read.ensures.taken in
    let f = c.read.ensures.refused in
    let k = read-looks r p out t u bs h f in
    moved {shape = d.shape} {q = d.owed} {n = d.level} {u = seats u} {bs = bs} (λ a h. OnOk r (IsCalm (seen_of a) (seen_of h))) e b (read-calms r d.shape d.owed d.level bs t u p out i h)

pub returns-clause-fault : goal.returns-clause-fault
returns-clause-fault g c =
    let d = c.self.inside in
    let i = c.self.invariant in
    let e = c.self.view_is in
    let bs : List Beside = beside_in d.node in
    let t : Tree = tree_of d.node in
    let G : Ground = ground d.shape d.owed d.level (seats t) bs in
    let r = c.read.result in
    let u : Tree = tree_of c.read.new.node in
    let b = c.read.ensures.beside in
    let p = c.args.page in
    let out = c.read.new.out in
    let h = c.read.ensures.taken in
    let f = c.read.ensures.refused in
    let k = read-looks r p out t u bs h f in
    moved {shape = d.shape} {q = d.owed} {n = d.level} {u = seats u} {bs = bs} (λ a h. IfErr r (IsFault (seen_of a) (seen_of h))) e b (read-faults r d.shape d.owed d.level bs t u p i f)

pub returns-clause-look : goal.returns-clause-look
returns-clause-look g c =
    let d = c.self.inside in
    let i = c.self.invariant in
    let e = c.self.view_is in
    let bs : List Beside = beside_in d.node in
    let t : Tree = tree_of d.node in
    let G : Ground = ground d.shape d.owed d.level (seats t) bs in
    let r = c.read.result in
    let u : Tree = tree_of c.read.new.node in
    let b = c.read.ensures.beside in
    let p = c.args.page in
    let out = c.read.new.out in
    let h = c.read.ensures.taken in
    let f = c.read.ensures.refused in
    let k = read-looks r p out t u bs h f in
    moved {shape = d.shape} {q = d.owed} {n = d.level} {u = seats u} {bs = bs} (λ a h. (x : List ℕ) × Look p x a.row (answered r) h.row) e b k

pub returns-clause-rest : goal.returns-clause-rest
returns-clause-rest g c =
    let d = c.self.inside in
    let i = c.self.invariant in
    let e = c.self.view_is in
    let bs : List Beside = beside_in d.node in
    let t : Tree = tree_of d.node in
    let G : Ground = ground d.shape d.owed d.level (seats t) bs in
    let r = c.read.result in
    let u : Tree = tree_of c.read.new.node in
    let b = c.read.ensures.beside in
    let p = c.args.page in
    let out = c.read.new.out in
    let h = c.read.ensures.taken in
    let f = c.read.ensures.refused in
    let k = read-looks r p out t u bs h f in
    moved {shape = d.shape} {q = d.owed} {n = d.level} {u = seats u} {bs = bs} (λ a h. h ≡ record a { row = h.row }) e b refl

pub returns-clause-guards : goal.returns-clause-guards
returns-clause-guards g c =
    let d = c.self.inside in
    let i = c.self.invariant in
    let e = c.self.view_is in
    let bs : List Beside = beside_in d.node in
    let t : Tree = tree_of d.node in
    let G : Ground = ground d.shape d.owed d.level (seats t) bs in
    let r = c.read.result in
    let u : Tree = tree_of c.read.new.node in
    let b = c.read.ensures.beside in
    let p = c.args.page in
    let out = c.read.new.out in
    let h = c.read.ensures.taken in
    let f = c.read.ensures.refused in
    let k = read-looks r p out t u bs h f in
    moved {shape = d.shape} {q = d.owed} {n = d.level} {u = seats u} {bs = bs} (λ a h. (v : Medium) (F : List (List ℕ)) (ws : List (ℕ × List ℕ)) (L : ℕ → Bool) (past : List Image) → Guarding v (Since_then F ws) L past a.row → Guarding v (Since_then F ws) L past h.row) e b (λ v F ws L past n. guards-look k.1.each n)

pub invariant_of-self : goal.invariant_of-self
invariant_of-self g c =
    let d = c.self.inside in
    let i = c.self.invariant in
    let e = c.self.view_is in
    let bs : List Beside = beside_in d.node in
    let t : Tree = tree_of d.node in
    let G : Ground = ground d.shape d.owed d.level (seats t) bs in
    let r = c.read.result in
    let u : Tree = tree_of c.read.new.node in
    let b = c.read.ensures.beside in
    let p = c.args.page in
    let out = c.read.new.out in
    let h = c.read.ensures.taken in
    let f = c.read.ensures.refused in
    let k = read-looks r p out t u bs h f in
    moved-one {shape = d.shape} {q = d.owed} {n = d.level} {u = seats u} {bs = bs} b (after-read G (seats u) i k.1).whole
