use Rattle.std.proofs.Common.{◌∙◌, ap, sym, Option, Some}
use Rattle.std.specs.Option.{option_map}
use Rattle.marshal_buf.specs.declared.door.Door.{Door}
use Rattle.sub_caching.specs.Routes.{caching_route}
use Rattle.sub_caching.proofs.kinds.CachingSubcontract.route.Goals as goal

pub returns-clause-ok : goal.returns-clause-ok
returns-clause-ok c =
    ap (λ (held : Option Door). option_map (λ (door : Door). caching_route c.args.mounted.now c.args.machine door c.args.object.now.tag) held) c.in_ok-door.ensures
    ∙ ap Some (sym (c.local_route.ensures c.args.object.now.tag))
