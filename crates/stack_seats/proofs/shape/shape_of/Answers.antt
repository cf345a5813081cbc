use Rattle.std.proofs.Common.{rules, ◌≡◌, List, sym, subst}
use Rattle.script_gen.specs.declared.shape.Shape.{Shape}
use Rattle.script_gen.specs.declared.shape.ShapeSeat.{ShapeSeat}
use Rattle.script_gen.specs.Shape.{IsShape}
use Rattle.stack_seats.specs.Seats.{AreOnMachines, seats_of, shape_of}
use Rattle.stack_seats.proofs.ShapeLaws.{seats-on, shape-is}
use Rattle.stack_seats.proofs.shape.shape_of.Goals as goal

pub returns-clause-shape : goal.returns-clause-shape
returns-clause-shape c = λ names.
    let made : Shape = record { page_size = c.page_size.result; files = c.in_ok-files_of.field-0; seats = c.in_ok-seats_of.field-0 } in
    let e : made ≡ shape_of c.args.mount.now = search rules in
    subst (λ (s : Shape). IsShape s) (sym e) (shape-is c.args.mount.now c.page_size.ensures.sound names)

pub returns-clause-machines : goal.returns-clause-machines
returns-clause-machines c =
    let e : c.in_ok-seats_of.field-0 ≡ seats_of c.args.mount.now = search rules in
    subst (λ (seats : List ShapeSeat). AreOnMachines c.args.mount.now seats) (sym e) (seats-on c.args.mount.now c.page_size.ensures.sound)
