use Rattle.std.proofs.Common.{◌≡◌, ◌<◌, ℕ, Bool, List, [], Some, refl}
use Rattle.std.specs.Prelude.{OnOk, IfErr}
use Rattle.page_ground.specs.Seen.{Keeps, IsCalm, IsFault, AllKept}
use Rattle.mirror_rules.specs.Tree.{Image, Seat, Tree, seats, limit}
use Rattle.mirror_rules.specs.Claims.{Every}
use Rattle.mirror_rules.specs.Steps.{Flushes}
use Rattle.mirror_rules.specs.Guards.{Medium, Within, Guarding, IsIn, live_at}
use Rattle.mirror_rules.specs.Levels.{Near, Even, Lower}
use Rattle.mirror_rules.specs.History.{Since_then}
use Rattle.mirror_rules.proofs.RoundLaws.{live-tree}
use Rattle.mirror_layer.specs.View.{Beside, tree_of, beside_in}
use Rattle.mirror_layer.specs.Calls.{answered}
use Rattle.mirror_layer.specs.Ground.{Ground, seen_of}
use Rattle.mirror_layer.proofs.GroundLaws.{ground, moved, moved-one, after-flush, flush-same, flush-oks, flush-calms, flush-faults, flush-begins, guards-flushed}
use Rattle.mirror_layer.proofs.ground.MirrorGroundGround.flush.Goals as goal

pub flush-requires : goal.flush-requires
flush-requires g c = live-tree (tree_of c.self.inside.node) c.self.invariant.live

pub returns-clause-same : goal.returns-clause-same
returns-clause-same g c =
    let d = c.self.inside in
    let i = c.self.invariant in
    let e = c.self.view_is in
    let bs : List Beside = beside_in d.node in
    let t : Tree = tree_of d.node in
    let G : Ground = ground d.shape d.owed d.level (seats t) bs in
    let r = c.flush.result in
    let q = c.flush.new.owed in
    let n = c.flush.new.level in
    let u : List Seat = seats (tree_of c.flush.new.node) in
    let b = c.flush.ensures.beside in
    let h = c.flush.ensures.flushes in
    moved {shape = d.shape} {q = q} {n = n} {u = u} {bs = bs} (λ a h. (seen_of h).pages ≡ (seen_of a).pages) e b (flush-same G q n u i h)

pub returns-clause-ok : goal.returns-clause-ok
returns-clause-ok g c =
    let d = c.self.inside in
    let i = c.self.invariant in
    let e = c.self.view_is in
    let bs : List Beside = beside_in d.node in
    let t : Tree = tree_of d.node in
    let G : Ground = ground d.shape d.owed d.level (seats t) bs in
    let r = c.flush.result in
    let q = c.flush.new.owed in
    let n = c.flush.new.level in
    let u : List Seat = seats (tree_of c.flush.new.node) in
    let b = c.flush.ensures.beside in
    let h = c.flush.ensures.flushes in
    moved {shape = d.shape} {q = q} {n = n} {u = u} {bs = bs} (λ a h. OnOk r (AllKept (seen_of h) (seen_of h).pages)) e b (flush-oks r G q n u i h)

pub returns-clause-keeps : goal.returns-clause-keeps
returns-clause-keeps g c =
    let d = c.self.inside in
    let i = c.self.invariant in
    let e = c.self.view_is in
    let bs : List Beside = beside_in d.node in
    let t : Tree = tree_of d.node in
    let G : Ground = ground d.shape d.owed d.level (seats t) bs in
    let r = c.flush.result in
    let q = c.flush.new.owed in
    let n = c.flush.new.level in
    let u : List Seat = seats (tree_of c.flush.new.node) in
    let b = c.flush.ensures.beside in
    let h = c.flush.ensures.flushes in
    moved {shape = d.shape} {q = q} {n = n} {u = u} {bs = bs} (λ a h. Keeps (seen_of a) (seen_of h)) e b (after-flush G q n u i h).keeps

pub returns-clause-calm : goal.returns-clause-calm
returns-clause-calm g c =
    let d = c.self.inside in
    let i = c.self.invariant in
    let e = c.self.view_is in
    let bs : List Beside = beside_in d.node in
    let t : Tree = tree_of d.node in
    let G : Ground = ground d.shape d.owed d.level (seats t) bs in
    let r = c.flush.result in
    let q = c.flush.new.owed in
    let n = c.flush.new.level in
    let u : List Seat = seats (tree_of c.flush.new.node) in
    let b = c.flush.ensures.beside in
    let h = c.flush.ensures.flushes in
    moved {shape = d.shape} {q = q} {n = n} {u = u} {bs = bs} (λ a h. OnOk r (IsCalm (seen_of a) (seen_of h))) e b (flush-calms r G q n u i h)

pub returns-clause-fault : goal.returns-clause-fault
returns-clause-fault g c =
    let d = c.self.inside in
    let i = c.self.invariant in
    let e = c.self.view_is in
    let bs : List Beside = beside_in d.node in
    let t : Tree = tree_of d.node in
    let G : Ground = ground d.shape d.owed d.level (seats t) bs in
    let r = c.flush.result in
    let q = c.flush.new.owed in
    let n = c.flush.new.level in
    let u : List Seat = seats (tree_of c.flush.new.node) in
    let b = c.flush.ensures.beside in
    let h = c.flush.ensures.flushes in
    moved {shape = d.shape} {q = q} {n = n} {u = u} {bs = bs} (λ a h. IfErr r (IsFault (seen_of a) (seen_of h))) e b (flush-faults r G q n u i h)

pub returns-clause-flushes : goal.returns-clause-flushes
returns-clause-flushes g c =
    let d = c.self.inside in
    let i = c.self.invariant in
    let e = c.self.view_is in
    let bs : List Beside = beside_in d.node in
    let t : Tree = tree_of d.node in
    let G : Ground = ground d.shape d.owed d.level (seats t) bs in
    let r = c.flush.result in
    let q = c.flush.new.owed in
    let n = c.flush.new.level in
    let u : List Seat = seats (tree_of c.flush.new.node) in
    let b = c.flush.ensures.beside in
    let h = c.flush.ensures.flushes in
    moved {shape = d.shape} {q = q} {n = n} {u = u} {bs = bs} (λ a h. Flushes a.owed a.generation a.row (answered r) h.owed h.generation h.row) e b h

pub returns-clause-rest : goal.returns-clause-rest
returns-clause-rest g c =
    let d = c.self.inside in
    let i = c.self.invariant in
    let e = c.self.view_is in
    let bs : List Beside = beside_in d.node in
    let t : Tree = tree_of d.node in
    let G : Ground = ground d.shape d.owed d.level (seats t) bs in
    let r = c.flush.result in
    let q = c.flush.new.owed in
    let n = c.flush.new.level in
    let u : List Seat = seats (tree_of c.flush.new.node) in
    let b = c.flush.ensures.beside in
    let h = c.flush.ensures.flushes in
    moved {shape = d.shape} {q = q} {n = n} {u = u} {bs = bs} (λ a h. h ≡ record a { owed = h.owed; generation = h.generation; row = h.row }) e b refl

pub returns-clause-guards : goal.returns-clause-guards
returns-clause-guards g c =
    let d = c.self.inside in
    let i = c.self.invariant in
    let e = c.self.view_is in
    let bs : List Beside = beside_in d.node in
    let t : Tree = tree_of d.node in
    let G : Ground = ground d.shape d.owed d.level (seats t) bs in
    let r = c.flush.result in
    let q = c.flush.new.owed in
    let n = c.flush.new.level in
    let u : List Seat = seats (tree_of c.flush.new.node) in
    let b = c.flush.ensures.beside in
    let h = c.flush.ensures.flushes in
    moved {shape = d.shape} {q = q} {n = n} {u = u} {bs = bs} (λ a h. (v : Medium) (F : List (List ℕ)) (ws : List (ℕ × List ℕ)) (L : ℕ → Bool) (past : List Image) (Q : List (List ℕ)) → (seen_of a).pages ≡ Some Q → Within (Since_then F ws) Q → Every (Near v a.generation) a.row → Guarding v (Since_then F ws) L past a.row → Guarding v (Since_then F ws) L past h.row) e b (guards-flushed G q n u i h)

pub returns-clause-begins : goal.returns-clause-begins
returns-clause-begins g c =
    let d = c.self.inside in
    let i = c.self.invariant in
    let e = c.self.view_is in
    let bs : List Beside = beside_in d.node in
    let t : Tree = tree_of d.node in
    let G : Ground = ground d.shape d.owed d.level (seats t) bs in
    let r = c.flush.result in
    let q = c.flush.new.owed in
    let n = c.flush.new.level in
    let u : List Seat = seats (tree_of c.flush.new.node) in
    let b = c.flush.ensures.beside in
    let h = c.flush.ensures.flushes in
    moved {shape = d.shape} {q = q} {n = n} {u = u} {bs = bs} (λ a h. OnOk r ((v : Medium) (past : List Image) (Q : List (List ℕ)) → (seen_of a).pages ≡ Some Q → Every (Near v a.generation) a.row → Even v a.owed a.generation a.row → h.generation < limit → Every (Lower h.generation) h.row → ((i : Image) → IsIn past i → i.generation < h.generation) → Guarding v (Since_then Q []) (live_at h.row) past h.row)) e b (flush-begins r G q n u i h)

pub invariant_of-self : goal.invariant_of-self
invariant_of-self g c =
    let d = c.self.inside in
    let i = c.self.invariant in
    let e = c.self.view_is in
    let bs : List Beside = beside_in d.node in
    let t : Tree = tree_of d.node in
    let G : Ground = ground d.shape d.owed d.level (seats t) bs in
    let r = c.flush.result in
    let q = c.flush.new.owed in
    let n = c.flush.new.level in
    let u : List Seat = seats (tree_of c.flush.new.node) in
    let b = c.flush.ensures.beside in
    let h = c.flush.ensures.flushes in
    moved-one {shape = d.shape} {q = q} {n = n} {u = u} {bs = bs} b (after-flush G q n u i h).whole
