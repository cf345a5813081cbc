use Rattle.std.proofs.Common.{subst}
use Rattle.name_context.specs.History.{NamesSeen, IsStory}
use Rattle.name_context.proofs.stack_names.Names.sound.Goals as goal

pub returns : goal.returns
returns c = subst (λ (s : NamesSeen). IsStory s.began s.history) c.self.view_is c.self.invariant.story
