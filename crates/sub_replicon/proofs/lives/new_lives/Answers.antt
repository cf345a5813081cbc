use Rattle.std.proofs.Common.{ℕ, ◌++◌, ◌∷◌, [], List, sym, ap, ◌∙◌, take, get_or}
use Rattle.std.proofs.lemmas.List.{map-append, take_more}
use Rattle.sub_replicon.specs.Replicas.{new_lives}
use Rattle.sub_replicon.proofs.lives.new_lives.Goals as goal

pub loop-preserved : goal.loop-preserved
loop-preserved c =
    let doors = c.args.doors.now in
    let i = c.loop.index in
    c.push.ensures.items
    ∙ ap (λ (lives : List ℕ). lives ++ 0 ∷ []) c.loop.invariant
    ∙ sym (ap new_lives (take_more doors i 0 c.loop-test.true) ∙ map-append (λ (id : ℕ). 0) (take i doors) (get_or doors i 0 ∷ []))
