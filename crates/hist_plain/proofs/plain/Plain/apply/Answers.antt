use Rattle.std.proofs.Common.{ap, arith, ◌∙◌}
use Rattle.std.proofs.lemmas.List.{with_items_is}
use Rattle.hist_plain.specs.File.{Counted}
use Rattle.hist_plain.proofs.TreeLemmas.{length-lives_from, lives_le}
use Rattle.hist_plain.proofs.plain.Plain.apply.Goals as goal

pub invariant_of-self-in-DestroyCache-1 : goal.invariant_of-self-in-DestroyCache-1
invariant_of-self-in-DestroyCache-1 c =
    let lives = with_items_is c.self.inside.lives c.raise.new.lives (c.raise.auto.lives ∙ c.deref_mut-in-DestroyCache.ensures.len) in
    let len = ap (λ (s : Counted). s.len) c.self.view_is in
    let room = c.requires.room in
    record {
      tree = c.self.invariant.tree;
      size = c.self.invariant.size;
      pages = c.self.invariant.pages;
      nodes = rw (lives, c.raise.ensures, c.deref_mut-in-DestroyCache.ensures.value) (length-lives_from c.deref.result.now c.in-DestroyCache.node 0 c.self.inside.lives.items ∙ c.self.invariant.nodes);
      lives = rw (lives, c.raise.ensures, c.deref_mut-in-DestroyCache.ensures.value) (lives_le c.deref.result.now c.in-DestroyCache.node 0 c.self.inside.len c.self.inside.lives.items c.self.invariant.lives);
      events = omega (arith, room, len);
    }
