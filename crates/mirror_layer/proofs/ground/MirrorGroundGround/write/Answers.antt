use Rattle.std.proofs.Common.{◌≡◌, ◌<◌, ℕ, Bool, List, ◌∷◌, length, sym, refl, subst, ap, ◌∙◌}
use Rattle.std.specs.Prelude.{OnOk, OnErr, IfErr}
use Rattle.page_ground.specs.Seen.{Keeps, IsCalm, IsFault, with_page}
use Rattle.mirror_rules.specs.Tree.{Image, Seat, Tree, seats}
use Rattle.mirror_rules.specs.Steps.{Says, Puts}
use Rattle.mirror_rules.specs.Guards.{Medium, Guarding}
use Rattle.mirror_rules.specs.History.{Since_then}
use Rattle.mirror_rules.proofs.GuardLaws.{guards-write}
use Rattle.mirror_rules.proofs.RoundLaws.{live-tree}
use Rattle.mirror_layer.specs.View.{Beside, tree_of, beside_in}
use Rattle.mirror_layer.specs.Calls.{answered}
use Rattle.mirror_layer.specs.Ground.{Ground, seen_of, outcome}
use Rattle.mirror_layer.proofs.GroundLaws.{ground, moved, moved-one, has-pages, after-write, write-oks, write-errs, write-calms, write-faults}
use Rattle.mirror_layer.proofs.ground.MirrorGroundGround.write.Goals as goal

pub put-requires-clause-live : goal.put-requires-clause-live
put-requires-clause-live g c = live-tree (tree_of c.self.inside.node) c.self.invariant.live

pub put-requires-clause-suits : goal.put-requires-clause-suits
put-requires-clause-suits g c = has-pages c.self.inside.shape c.args.page (length c.args.bytes.now) c.self.inside.node c.self.invariant.shapes (subst (λ (v : Ground). c.args.page < v.shape.pages) (sym c.self.view_is) c.requires.page) (c.requires.size ∙ ap (λ (v : Ground). v.shape.page_size) (sym c.self.view_is))

pub returns-clause-ok : goal.returns-clause-ok
returns-clause-ok g c =
    let d = c.self.inside in
    let i = c.self.invariant in
    let e = c.self.view_is in
    let bs : List Beside = beside_in d.node in
    let t : Tree = tree_of d.node in
    let G : Ground = ground d.shape d.owed d.level (seats t) bs in
    let r = c.put.result in
    let q = c.put.new.owed in
    let u : List Seat = seats (tree_of c.put.new.node) in
    let b = c.put.ensures.beside in
    let p = c.args.page in
    let x = c.args.bytes.now in
    let h = c.put.ensures.puts in
    moved {shape = d.shape} {q = q} {n = d.level} {u = u} {bs = bs} (λ a h. OnOk r ((seen_of h).pages ≡ with_page p x (seen_of a).pages)) e b (write-oks r G q u p x i h)

pub returns-clause-err : goal.returns-clause-err
returns-clause-err g c =
    let d = c.self.inside in
    let i = c.self.invariant in
    let e = c.self.view_is in
    let bs : List Beside = beside_in d.node in
    let t : Tree = tree_of d.node in
    let G : Ground = ground d.shape d.owed d.level (seats t) bs in
    let r = c.put.result in
    let q = c.put.new.owed in
    let u : List Seat = seats (tree_of c.put.new.node) in
    let b = c.put.ensures.beside in
    let p = c.args.page in
    let x = c.args.bytes.now in
    let h = c.put.ensures.puts in
    moved {shape = d.shape} {q = q} {n = d.level} {u = u} {bs = bs} (λ a h. OnErr r ((seen_of h).pages ≡ (seen_of a).pages)) e b (write-errs r G q u p x i h)

pub returns-clause-keeps : goal.returns-clause-keeps
returns-clause-keeps g c =
    let d = c.self.inside in
    let i = c.self.invariant in
    let e = c.self.view_is in
    let bs : List Beside = beside_in d.node in
    let t : Tree = tree_of d.node in
    let G : Ground = ground d.shape d.owed d.level (seats t) bs in
    let r = c.put.result in
    let q = c.put.new.owed in
    let u : List Seat = seats (tree_of c.put.new.node) in
    let b = c.put.ensures.beside in
    let p = c.args.page in
    let x = c.args.bytes.now in
    let h = c.put.ensures.puts in
    moved {shape = d.shape} {q = q} {n = d.level} {u = u} {bs = bs} (λ a h. Keeps (seen_of a) (seen_of h)) e b (after-write G q u i h.2).keeps

pub returns-clause-calm : goal.returns-clause-calm
returns-clause-calm g c =
    let d = c.self.inside in
    let i = c.self.invariant in
    let e = c.self.view_is in
    let bs : List Beside = beside_in d.node in
    let t : Tree = tree_of d.node in
    let G : Ground = ground d.shape d.owed d.level (seats t) bs in
    let r = c.put.result in
    let q = c.put.new.owed in
    let u : List Seat = seats (tree_of c.put.new.node) in
    let b = c.put.ensures.beside in
    let p = c.args.page in
    let x = c.args.bytes.now in
    let h = c.put.ensures.puts in
    moved {shape = d.shape} {q = q} {n = d.level} {u = u} {bs = bs} (λ a h. OnOk r (IsCalm (seen_of a) (seen_of h))) e b (write-calms r G q u p x i h)

pub returns-clause-fault : goal.returns-clause-fault
returns-clause-fault g c =
    let d = c.self.inside in
    let i = c.self.invariant in
    let e = c.self.view_is in
    let bs : List Beside = beside_in d.node in
    let t : Tree = tree_of d.node in
    let G : Ground = ground d.shape d.owed d.level (seats t) bs in
    let r = c.put.result in
    let q = c.put.new.owed in
    let u : List Seat = seats (tree_of c.put.new.node) in
    let b = c.put.ensures.beside in
    let p = c.args.page in
    let x = c.args.bytes.now in
    let h = c.put.ensures.puts in
    moved {shape = d.shape} {q = q} {n = d.level} {u = u} {bs = bs} (λ a h. IfErr r (IsFault (seen_of a) (seen_of h))) e b (write-faults r G q u p x i h)

pub returns-clause-puts : goal.returns-clause-puts
returns-clause-puts g c =
    let d = c.self.inside in
    let i = c.self.invariant in
    let e = c.self.view_is in
    let bs : List Beside = beside_in d.node in
    let t : Tree = tree_of d.node in
    let G : Ground = ground d.shape d.owed d.level (seats t) bs in
    let r = c.put.result in
    let q = c.put.new.owed in
    let u : List Seat = seats (tree_of c.put.new.node) in
    let b = c.put.ensures.beside in
    let p = c.args.page in
    let x = c.args.bytes.now in
    let h = c.put.ensures.puts in
    moved {shape = d.shape} {q = q} {n = d.level} {u = u} {bs = bs} (λ a h. (s : Says) × (outcome s ≡ answered r) × Puts p x a.owed a.row s h.owed h.row) e b h

pub returns-clause-rest : goal.returns-clause-rest
returns-clause-rest g c =
    let d = c.self.inside in
    let i = c.self.invariant in
    let e = c.self.view_is in
    let bs : List Beside = beside_in d.node in
    let t : Tree = tree_of d.node in
    let G : Ground = ground d.shape d.owed d.level (seats t) bs in
    let r = c.put.result in
    let q = c.put.new.owed in
    let u : List Seat = seats (tree_of c.put.new.node) in
    let b = c.put.ensures.beside in
    let p = c.args.page in
    let x = c.args.bytes.now in
    let h = c.put.ensures.puts in
    moved {shape = d.shape} {q = q} {n = d.level} {u = u} {bs = bs} (λ a h. h ≡ record a { owed = h.owed; row = h.row }) e b refl

pub returns-clause-guards : goal.returns-clause-guards
returns-clause-guards g c =
    let d = c.self.inside in
    let i = c.self.invariant in
    let e = c.self.view_is in
    let bs : List Beside = beside_in d.node in
    let t : Tree = tree_of d.node in
    let G : Ground = ground d.shape d.owed d.level (seats t) bs in
    let r = c.put.result in
    let q = c.put.new.owed in
    let u : List Seat = seats (tree_of c.put.new.node) in
    let b = c.put.ensures.beside in
    let p = c.args.page in
    let x = c.args.bytes.now in
    let h = c.put.ensures.puts in
    moved {shape = d.shape} {q = q} {n = d.level} {u = u} {bs = bs} (λ a h. (v : Medium) (F : List (List ℕ)) (ws : List (ℕ × List ℕ)) (L : ℕ → Bool) (past : List Image) → Guarding v (Since_then F ws) L past a.row → Guarding v (Since_then F ((p, x) ∷ ws)) L past h.row) e b (λ v F ws L past n. guards-write h.2 n)

pub invariant_of-self : goal.invariant_of-self
invariant_of-self g c =
    let d = c.self.inside in
    let i = c.self.invariant in
    let e = c.self.view_is in
    let bs : List Beside = beside_in d.node in
    let t : Tree = tree_of d.node in
    let G : Ground = ground d.shape d.owed d.level (seats t) bs in
    let r = c.put.result in
    let q = c.put.new.owed in
    let u : List Seat = seats (tree_of c.put.new.node) in
    let b = c.put.ensures.beside in
    let p = c.args.page in
    let x = c.args.bytes.now in
    let h = c.put.ensures.puts in
    moved-one {shape = d.shape} {q = q} {n = d.level} {u = u} {bs = bs} b (after-write G q u i h.2).whole
