use Rattle.std.proofs.Common.{◌∙◌, Option, ap, sym}
use Rattle.std.specs.Option.{option_map}
use Rattle.tower_log.specs.declared.logged.Entry.{Entry}
use Rattle.tower_log.proofs.LogLaws.{event-at}
use Rattle.tower_log.proofs.trail.Trail.get.Goals as goal

pub returns-in-Some : goal.returns-in-Some
returns-in-Some c =
    sym (event-at c.args.self.now.log c.args.place ∙ ap (λ (e : Option Entry). option_map (λ (entry : Entry). entry.event) e) (sym c.in-Some.ensures))

pub returns-in-None : goal.returns-in-None
returns-in-None c =
    sym (event-at c.args.self.now.log c.args.place ∙ ap (λ (e : Option Entry). option_map (λ (entry : Entry). entry.event) e) (sym c.in-None.ensures))
