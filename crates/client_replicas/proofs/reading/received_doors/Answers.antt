use Rattle.std.proofs.Common.{◌≡◌, ℕ, List, length, Bool, true, false, cond, eqb, ◌&&◌, Option, Some, None, Result, Ok, Err, refl, sym, ap, ◌∙◌, eq-eqb}
use Rattle.std.specs.List.{list_all}
use Rattle.marshal_buf.specs.declared.door.Door.{Door}
use Rattle.marshal_buf.specs.Reading.{rest_of}
use Rattle.sub_replicon.specs.declared.TheConstants.{REPLICON}
use Rattle.client_replicas.specs.Received.{leads_onto}
use Rattle.client_replicas.proofs.ReceivedLaws.{all-lead, received-by, received-whole, unread_is}
use Rattle.client_replicas.proofs.reading.received_doors.Goals as goal

pub returns-in_default-read_doors-clause-is : goal.returns-in_default-read_doors-clause-is
returns-in_default-read_doors-clause-is c =
    let from = c.reader-from.ensures in
    let bytes = c.args.stored.now.bytes in
    let all = c.args.stored.now.doors in
    let start = unread_is c.reader-from.result bytes all from.input from.doors from.at from.next in
    received-by c.args.mount.now bytes all c.reader-from.result c.get_u16.new.self c.in-Ok.id (Err c.in_default-read_doors.field-0) start (sym c.in-Ok.is ∙ c.get_u16.ensures.value) (eq-eqb c.in-Ok.id REPLICON c.if-id-ne-REPLICON.false) c.in-Ok.ensures.place
    (sym c.in_default-read_doors.is ∙ c.read_doors.ensures.value)

pub returns-then-not-ends_there-clause-is : goal.returns-then-not-ends_there-clause-is
returns-then-not-ends_there-clause-is c =
    let from = c.reader-from.ensures in
    let bytes = c.args.stored.now.bytes in
    let all = c.args.stored.now.doors in
    let doors = c.in-Ok-read_doors.doors in
    let start = unread_is c.reader-from.result bytes all from.input from.doors from.at from.next in
    let whole : c.ends_there.result ≡ (eqb (length (rest_of c.read_doors.new.from)) 0 && eqb (length all) (length doors)) =
    c.ends_there.ensures ∙ ap (λ (ds : List Door). eqb (length (rest_of c.read_doors.new.from)) 0 && eqb (length all) (length ds)) c.as_slice.ensures.value in
    ap (λ (b : Bool). cond (b && list_all (leads_onto c.args.mount.now) doors) (Some doors) None) (sym c.if-not-ends_there.true)
    ∙ received-whole c.args.mount.now bytes all c.reader-from.result c.get_u16.new.self c.read_doors.new.from c.in-Ok.id doors c.ends_there.result (list_all (leads_onto c.args.mount.now) doors) start (sym c.in-Ok.is ∙ c.get_u16.ensures.value)
    (eq-eqb c.in-Ok.id REPLICON c.if-id-ne-REPLICON.false) c.in-Ok.ensures.place (sym c.in-Ok-read_doors.is ∙ c.read_doors.ensures.value) c.in-Ok.ensures.taken c.in-Ok-read_doors.ensures.taken whole refl

pub returns-then-not-all_lead-clause-is : goal.returns-then-not-all_lead-clause-is
returns-then-not-all_lead-clause-is c =
    let from = c.reader-from.ensures in
    let bytes = c.args.stored.now.bytes in
    let all = c.args.stored.now.doors in
    let doors = c.in-Ok-read_doors.doors in
    let start = unread_is c.reader-from.result bytes all from.input from.doors from.at from.next in
    let whole : c.ends_there.result ≡ (eqb (length (rest_of c.read_doors.new.from)) 0 && eqb (length all) (length doors)) =
    c.ends_there.ensures ∙ ap (λ (ds : List Door). eqb (length (rest_of c.read_doors.new.from)) 0 && eqb (length all) (length ds)) c.as_slice.ensures.value in
    let lead : c.all_lead.result ≡ list_all (leads_onto c.args.mount.now) doors = c.all_lead.ensures ∙ ap (list_all (leads_onto c.args.mount.now)) c.as_slice-2.ensures.value in
    ap (λ (b : Bool). cond (true && b) (Some doors) None) (sym c.if-not-all_lead.true)
    ∙ ap (λ (b : Bool). cond (b && c.all_lead.result) (Some doors) None) (sym c.if-not-ends_there.false)
    ∙ received-whole c.args.mount.now bytes all c.reader-from.result c.get_u16.new.self c.read_doors.new.from c.in-Ok.id doors c.ends_there.result c.all_lead.result start (sym c.in-Ok.is ∙ c.get_u16.ensures.value)
    (eq-eqb c.in-Ok.id REPLICON c.if-id-ne-REPLICON.false) c.in-Ok.ensures.place (sym c.in-Ok-read_doors.is ∙ c.read_doors.ensures.value) c.in-Ok.ensures.taken c.in-Ok-read_doors.ensures.taken whole lead

pub returns-clause-is : goal.returns-clause-is
returns-clause-is c =
    let from = c.reader-from.ensures in
    let bytes = c.args.stored.now.bytes in
    let all = c.args.stored.now.doors in
    let doors = c.in-Ok-read_doors.doors in
    let start = unread_is c.reader-from.result bytes all from.input from.doors from.at from.next in
    let whole : c.ends_there.result ≡ (eqb (length (rest_of c.read_doors.new.from)) 0 && eqb (length all) (length doors)) =
    c.ends_there.ensures ∙ ap (λ (ds : List Door). eqb (length (rest_of c.read_doors.new.from)) 0 && eqb (length all) (length ds)) c.as_slice.ensures.value in
    let lead : c.all_lead.result ≡ list_all (leads_onto c.args.mount.now) doors = c.all_lead.ensures ∙ ap (list_all (leads_onto c.args.mount.now)) c.as_slice-2.ensures.value in
    ap (λ (b : Bool). cond (true && b) (Some doors) None) (sym c.if-not-all_lead.false)
    ∙ ap (λ (b : Bool). cond (b && c.all_lead.result) (Some doors) None) (sym c.if-not-ends_there.false)
    ∙ received-whole c.args.mount.now bytes all c.reader-from.result c.get_u16.new.self c.read_doors.new.from c.in-Ok.id doors c.ends_there.result c.all_lead.result start (sym c.in-Ok.is ∙ c.get_u16.ensures.value)
    (eq-eqb c.in-Ok.id REPLICON c.if-id-ne-REPLICON.false) c.in-Ok.ensures.place (sym c.in-Ok-read_doors.is ∙ c.read_doors.ensures.value) c.in-Ok.ensures.taken c.in-Ok-read_doors.ensures.taken whole lead

pub returns-clause-lead : goal.returns-clause-lead
returns-clause-lead c =
    let doors = c.in-Ok-read_doors.doors in
    let lead : c.all_lead.result ≡ list_all (leads_onto c.args.mount.now) doors = c.all_lead.ensures ∙ ap (list_all (leads_onto c.args.mount.now)) c.as_slice-2.ensures.value in
    all-lead c.args.mount.now doors (sym lead ∙ c.if-not-all_lead.false)
