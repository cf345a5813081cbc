-- Laws of objects that are bound and received.
use Rattle.std.proofs.Common.{◌≡◌, ℕ, ◌+◌, ◌<◌, ◌^◌, List, [], ◌∷◌, ◌++◌, length, Bool, true, false, cond, ltb, eqb, ◌&&◌, Option, Some, None, Result, Ok, Err, refl, sym, ap, ◌∙◌, subst, arith, append-nil, ltb-true, lt-ltb, eq-eqb, lit<}
use Rattle.std.specs.Prelude.{IsOk, is_ok, is_some}
use Rattle.std.specs.List.{AllByRecursion}
use Rattle.std.proofs.lemmas.Option.{cond_some}
use Rattle.std.proofs.lemmas.Bool.Decides.{nat_tests}
use Rattle.std.proofs.lemmas.List.{length-append}
use Rattle.marshal_buf.specs.declared.door.Door.{Door}
use Rattle.marshal_buf.specs.declared.why.Short.{Short}
use Rattle.marshal_buf.specs.Numbers.{number_bytes}
use Rattle.marshal_buf.specs.Counted.{counted}
use Rattle.marshal_buf.specs.Reading.{Reading, rest_of, number_at, past, Takes}
use Rattle.marshal_buf.proofs.NumberLaws.{length-number_bytes}
use Rattle.domain_doors.specs.Doors.{Doors}
use Rattle.stack_accept.specs.Mount.{Mount, is_view_in}
use Rattle.sub_core.specs.declared.shape.Form.{Form}
use Rattle.sub_core.specs.declared.shape.Form.TheVariants.{Bare, Tagged, Managed, Pathed}
use Rattle.sub_core.specs.Forms.{tail_bytes, object_bytes, object_len, tail_len, IsTagOf, IsNameOf}
use Rattle.sub_core.specs.declared.values.Object.{Object}
use Rattle.sub_core.specs.declared.why.AnyErr.{AnyErr}
use Rattle.sub_core.specs.declared.why.AnyErr.TheVariants as whys
use Rattle.sub_core.specs.Fields.{Fields, fields_at, fields_behind, or_bad_object, known_fields, any_fields_at}
use Rattle.sub_core.specs.Calls.{LeadsToView}
use Rattle.sub_core.specs.Received.{UnmarshalsAny}
use Rattle.sub_core.specs.Laws.{ComesNext, AreFieldsOf}
use Rattle.sub_core.proofs.Objects.{id_is_read, fields_are_read}
use Rattle.name_context.specs.Names.{Kept, context, object}
use Rattle.client_objects.specs.declared.kind.ObjectKind.{ObjectKind}
use Rattle.client_objects.specs.declared.kind.ObjectKind.TheVariants.{Singleton, Cluster, Caching, Reconnectable}
use Rattle.client_objects.specs.declared.target.Target.{Target}
use Rattle.client_objects.specs.Kinds.{id_of, kind_of, form_of, file_of, is_built, form_or_bare, form_at}
use Rattle.client_objects.specs.Objects.{OpenObject, IsOnStack, with_object}
use Rattle.client_objects.specs.Stored.{target_of, leads, unread, ends_with, target_by, object_of_kind, object_by, received, received_word, word_by, word_of_kind, word_behind, stored_object, bound_object, name_for}
use Rattle.client_objects.specs.Laws.{IsViewed, MayKeep, tag_for, bound_target, BoundIsReceived, StartsBound, LeadsOntoStack, ReceivedLeads}
use Rattle.client_objects.proofs.KindLaws.{id_fits, kind_of-id, id_of-kind}
use Rattle.client_objects.proofs.OpenLaws.{on_stack-with_object}
use Rattle.client_objects.proofs.ChosenLaws.{chosen_of}

both : (a b : Bool) → (a && b) ≡ true → (a ≡ true) × (b ≡ true)
both true b is = (refl, is)
both false b is = absurd cc

-- what is known of an object that is received
pub record IsRead (mount : Mount) (bytes : List ℕ) (doors : List Door) (target : Target) : Type 0 where
  pub id : ℕ
  pub kind : ObjectKind
  pub fields : Fields
  pub id_is : number_at 2 (unread bytes doors) ≡ Ok id
  pub known : kind_of id ≡ Some kind
  pub read : fields_behind (form_of kind) (unread bytes doors) ≡ Ok fields
  pub leads_there : leads mount kind fields ≡ true
  pub same : target ≡ target_of kind fields

record ReadBy (mount : Mount) (kind : ObjectKind) (result : Result Fields ℕ) (target : Target) : Type 0 where
  fields : Fields
  read : result ≡ Ok fields
  leads_there : leads mount kind fields ≡ true
  same : target ≡ target_of kind fields

read_by : (mount : Mount) (bytes : List ℕ) (doors : List Door) (kind : ObjectKind) (result : Result Fields ℕ) (target : Target) → target_by mount bytes doors kind result ≡ Some target → ReadBy mount kind result target
read_by mount bytes doors kind (Ok fields) target is =
    let found = cond_some (ends_with kind fields bytes doors && leads mount kind fields) (target_of kind fields) target is in
    record { fields = fields; read = refl; leads_there = (both (ends_with kind fields bytes doors) (leads mount kind fields) found.0).1; same = sym found.1 }
read_by mount bytes doors kind (Err at) target is = absurd cc

is_read_of : (mount : Mount) (bytes : List ℕ) (doors : List Door) (id : ℕ) (kind : Option ObjectKind) (target : Target) → number_at 2 (unread bytes doors) ≡ Ok id → kind_of id ≡ kind → object_of_kind mount bytes doors kind ≡ Some target → IsRead mount bytes doors target
is_read_of mount bytes doors id (Some kind) target id_is known is =
    let read = read_by mount bytes doors kind (fields_behind (form_of kind) (unread bytes doors)) target is in
    record {
      id = id;
      kind = kind;
      fields = read.fields;
      id_is = id_is;
      known = known;
      read = read.read;
      leads_there = read.leads_there;
      same = read.same;
    }
is_read_of mount bytes doors id None target id_is known is = absurd cc

is_read_by : (mount : Mount) (bytes : List ℕ) (doors : List Door) (id : Result ℕ Short) (target : Target) → number_at 2 (unread bytes doors) ≡ id → object_by mount bytes doors id ≡ Some target → IsRead mount bytes doors target
is_read_by mount bytes doors (Ok id) target id_is is = is_read_of mount bytes doors id (kind_of id) target id_is refl is
is_read_by mount bytes doors (Err short) target id_is is = absurd cc

pub is_read : (mount : Mount) (bytes : List ℕ) (doors : List Door) (target : Target) → received mount (Some (object bytes doors)) ≡ Some target → IsRead mount bytes doors target
is_read mount bytes doors target is = is_read_by mount bytes doors (number_at 2 (unread bytes doors)) target refl is

-- a reader that stands at the start
pub unread_is : (start : Reading) (bytes : List ℕ) (doors : List Door) → start.input ≡ bytes → start.doors ≡ doors → start.at ≡ 0 → start.next ≡ 0 → start ≡ unread bytes doors
unread_is start bytes doors input ends at next =
    ap (λ (xs : List ℕ). let r : Reading = record { input = xs; doors = start.doors; at = start.at; next = start.next } in r) input
    ∙ ap (λ (xs : List Door). let r : Reading = record { input = bytes; doors = xs; at = start.at; next = start.next } in r) ends
    ∙ ap (λ (n : ℕ). let r : Reading = record { input = bytes; doors = doors; at = n; next = start.next } in r) at
    ∙ ap (λ (n : ℕ). let r : Reading = record { input = bytes; doors = doors; at = 0; next = n } in r) next

-- where an object leads of which the identifier was read, if the program has its subcontract
pub received-kind : (mount : Mount) (bytes : List ℕ) (doors : List Door) (start : Reading) (id : ℕ) → start ≡ unread bytes doors → Ok id ≡ number_at 2 start → object_of_kind mount bytes doors (kind_of id) ≡ received mount (Some (object bytes doors))
received-kind mount bytes doors start id from is =
    ap (object_by mount bytes doors) (is ∙ ap (number_at 2) from)

-- and by what is read of its fields
pub received-fields : (mount : Mount) (bytes : List ℕ) (doors : List Door) (start behind : Reading) (id : ℕ) (kind : ObjectKind) (fields : Result Fields ℕ) → start ≡ unread bytes doors → Ok id ≡ number_at 2 start → behind ≡ past 2 0 start
    → kind_of id ≡ Some kind → fields ≡ fields_at (form_of kind) behind → target_by mount bytes doors kind fields ≡ received mount (Some (object bytes doors))
received-fields mount bytes doors start behind id kind fields from is place known read =
    let there : behind ≡ past 2 0 (unread bytes doors) = place ∙ ap (past 2 0) from in
    ap (target_by mount bytes doors kind) (read ∙ ap (fields_at (form_of kind)) there)
    ∙ ap (object_of_kind mount bytes doors) (sym known)
    ∙ received-kind mount bytes doors start id from is

length-tail_bytes : (form : Form) (tag : ℕ) (name : List ℕ) → length (tail_bytes form tag name) ≡ tail_len form name
length-tail_bytes Bare tag name = refl
length-tail_bytes Tagged tag name = length-number_bytes 4 tag
length-tail_bytes Managed tag name =
    length-append (number_bytes 4 (length name)) name ∙ ap (λ (n : ℕ). n + length name) (length-number_bytes 4 (length name))
length-tail_bytes Pathed tag name =
    length-append (number_bytes 4 (length name)) name ∙ ap (λ (n : ℕ). n + length name) (length-number_bytes 4 (length name))

-- the test whether nothing is left behind an object
none_left : (n size left : ℕ) → n ≡ size + left → eqb n size ≡ eqb left 0
none_left n size left is = grind (arith, nat_tests, is)

-- an object was read to the end exactly if nothing is left
pub ends_if : (bytes : List ℕ) (doors : List Door) (id : ℕ) (kind : ObjectKind) (fields : Fields) (start behind end : Reading) → start ≡ unread bytes doors → Takes (number_bytes 2 id) 0 start behind
    → Takes (number_bytes 4 behind.next ++ tail_bytes (form_of kind) fields.tag fields.name) 1 behind end → eqb (length bytes) (object_len (form_of kind) fields.name) ≡ eqb (length (rest_of end)) 0
ends_if bytes doors id kind fields start behind end from first second =
    let tail : List ℕ = tail_bytes (form_of kind) fields.tag fields.name in
    let whole : bytes ≡ rest_of start = sym (ap rest_of from) in
    let outer = length-append (number_bytes 2 id) (rest_of behind) in
    let middle = length-append (number_bytes 4 behind.next ++ tail) (rest_of end) in
    let inner = length-append (number_bytes 4 behind.next) tail in
    let two = length-number_bytes 2 id in
    let four = length-number_bytes 4 behind.next in
    let more = length-tail_bytes (form_of kind) fields.tag fields.name in
    let all : length bytes ≡ length (rest_of start) = ap length whole in
    let start_len : length (rest_of start) ≡ length (number_bytes 2 id ++ rest_of behind) = ap length first.taken in
    let behind_len : length (rest_of behind) ≡ length ((number_bytes 4 behind.next ++ tail) ++ rest_of end) = ap length second.taken in
    none_left (length bytes) (object_len (form_of kind) fields.name) (length (rest_of end)) (omega (arith, all, start_len, behind_len, outer, middle, inner, two, four, more))

-- where an object leads that was read to the end, or not
pub received-whole : (mount : Mount) (bytes : List ℕ) (doors : List Door) (start behind end : Reading) (id : ℕ) (kind : ObjectKind) (fields : Fields) (whole there : Bool) → start ≡ unread bytes doors → Ok id ≡ number_at 2 start → behind ≡ past 2 0 start
    → kind_of id ≡ Some kind → Ok fields ≡ fields_at (form_of kind) behind → Takes (number_bytes 2 id) 0 start behind → Takes (number_bytes 4 behind.next ++ tail_bytes (form_of kind) fields.tag fields.name) 1 behind end
    → whole ≡ (eqb (length (rest_of end)) 0 && eqb (length doors) 1) → there ≡ leads mount kind fields
    → cond (whole && there) (Some (target_of kind fields)) None ≡ received mount (Some (object bytes doors))
received-whole mount bytes doors start behind end id kind fields whole there from is place known read first second ends lead =
    let target : Bool → Option Target = λ b. cond b (Some (target_of kind fields)) None in
    let whole_is : whole ≡ ends_with kind fields bytes doors = ends ∙ ap (λ (b : Bool). b && eqb (length doors) 1) (sym (ends_if bytes doors id kind fields start behind end from first second)) in
    ap (λ (b : Bool). target (b && there)) whole_is
    ∙ ap (λ (b : Bool). target (ends_with kind fields bytes doors && b)) lead
    ∙ received-fields mount bytes doors start behind id kind (Ok fields) from is place known read

known_if : (id : ℕ) (kind : Option ObjectKind) (start : Reading) (fields : Fields) → is_some kind ≡ true → fields_behind (form_or_bare kind) start ≡ Ok fields → cond (is_some kind) (or_bad_object (fields_behind (form_or_bare kind) start)) (Err (whys.UnknownSubcontract id)) ≡ Ok fields
known_if id (Some kind) start fields some read = ap or_bad_object read
known_if id None start fields some read = absurd cc

abbrev number_at_is : Result ℕ Short → Result ℕ Short → Type 0
number_at_is a b = a ≡ b

abbrev fields_are : Result Fields ℕ → Result Fields ℕ → Type 0
fields_are a b = a ≡ b

ok_same : (a b : ℕ) → number_at_is (Ok a) (Ok b) → a ≡ b
ok_same a b is = cc

fields_same : (a b : Fields) → fields_are (Ok a) (Ok b) → a ≡ b
fields_same a b is = cc

-- an object that is received can be read
pub received-reads : (mount : Mount) (bytes : List ℕ) (doors : List Door) (target : Target) (start : Reading) → start ≡ unread bytes doors → received mount (Some (object bytes doors)) ≡ Some target → IsOk (any_fields_at is_built form_at start)
received-reads mount bytes doors target start from is =
    let read = is_read mount bytes doors target is in
    let there : Reading = unread bytes doors in
    let form : form_at read.id ≡ form_of read.kind = ap form_or_bare read.known in
    let known : any_fields_at is_built form_at there ≡ Ok read.fields =
    ap (known_fields is_built form_at there) read.id_is
    ∙ known_if read.id (kind_of read.id) there read.fields (ap (λ (k : Option ObjectKind). is_some k) read.known) (ap (λ (f : Form). fields_behind f there) form ∙ read.read) in
    ap (λ (r : Result Fields AnyErr). is_ok r) (ap (any_fields_at is_built form_at) from ∙ known)

-- its subcontract is the target's
pub received-sub : (mount : Mount) (bytes : List ℕ) (doors : List Door) (target : Target) (start end : Reading) (old new : Doors) (made : Object) → start ≡ unread bytes doors → received mount (Some (object bytes doors)) ≡ Some target
    → UnmarshalsAny is_built form_at old new start end made → made.sub ≡ id_of target.kind
received-sub mount bytes doors target start end old new made from is got =
    let read = is_read mount bytes doors target is in
    let id : number_at_is (Ok read.id) (Ok made.sub) = sym read.id_is ∙ ap (number_at 2) (sym from) ∙ got.id in
    sym (ok_same read.id made.sub id) ∙ id_of-kind read.id read.kind read.known ∙ ap (λ (t : Target). id_of t.kind) (sym read.same)

-- and it leads where the object leads that was made of it
pub received-target : (mount : Mount) (bytes : List ℕ) (doors : List Door) (target : Target) (start end : Reading) (old new : Doors) (made : Object) → start ≡ unread bytes doors → received mount (Some (object bytes doors)) ≡ Some target
    → (got : UnmarshalsAny is_built form_at old new start end made) → target_of target.kind got.reads.fields ≡ target
received-target mount bytes doors target start end old new made from is got =
    let read = is_read mount bytes doors target is in
    let id : number_at_is (Ok read.id) (Ok made.sub) = sym read.id_is ∙ ap (number_at 2) (sym from) ∙ got.id in
    let form : form_of read.kind ≡ form_at made.sub = sym (ap form_or_bare read.known) ∙ ap form_at (ok_same read.id made.sub id) in
    let fields : fields_are (Ok read.fields) (Ok got.reads.fields) =
    sym read.read ∙ ap (fields_behind (form_of read.kind)) (sym from) ∙ ap (λ (f : Form). fields_behind f start) form ∙ got.reads.read in
    let kind : target.kind ≡ read.kind = ap (λ (t : Target). t.kind) read.same in
    ap (λ (k : ObjectKind). target_of k got.reads.fields) kind ∙ ap (target_of read.kind) (sym (fields_same read.fields got.reads.fields fields)) ∙ sym read.same

-- and its word is that of the fields that were read of it
pub received-word : (mount : Mount) (bytes : List ℕ) (doors : List Door) (target : Target) (start end : Reading) (old new : Doors) (made : Object) → start ≡ unread bytes doors → received mount (Some (object bytes doors)) ≡ Some target
    → (got : UnmarshalsAny is_built form_at old new start end made) → got.reads.fields.name ≡ received_word (Some (object bytes doors))
received-word mount bytes doors target start end old new made from is got =
    let read = is_read mount bytes doors target is in
    let id : number_at_is (Ok read.id) (Ok made.sub) = sym read.id_is ∙ ap (number_at 2) (sym from) ∙ got.id in
    let form : form_of read.kind ≡ form_at made.sub = sym (ap form_or_bare read.known) ∙ ap form_at (ok_same read.id made.sub id) in
    let fields : fields_are (Ok read.fields) (Ok got.reads.fields) =
    sym read.read ∙ ap (fields_behind (form_of read.kind)) (sym from) ∙ ap (λ (f : Form). fields_behind f start) form ∙ got.reads.read in
    let word : received_word (Some (object bytes doors)) ≡ read.fields.name =
    ap (word_behind bytes doors) read.id_is ∙ ap (word_of_kind bytes doors) read.known ∙ ap word_by read.read in
    ap (λ (f : Fields). f.name) (sym (fields_same read.fields got.reads.fields fields)) ∙ sym word

onto_stack : (mount : Mount) (kind : ObjectKind) (fields : Fields) (target : Target) → leads mount kind fields ≡ true → target ≡ target_of kind fields → LeadsOntoStack mount target
onto_stack mount kind fields target is same =
    let files : ℕ = length mount.files in
    let outer = both (is_view_in mount.nodes fields.door.node && ltb fields.door.file files) (ltb (file_of kind fields.door fields.tag) files) is in
    let inner = both (is_view_in mount.nodes fields.door.node) (ltb fields.door.file files) outer.0 in
    let there : LeadsOntoStack mount (target_of kind fields) =
    record { view = inner.0; file = ltb-true (file_of kind fields.door fields.tag) files outer.1; chosen = chosen_of kind fields } in
    subst (λ (t : Target). LeadsOntoStack mount t) (sym same) there

pub received_leads : ReceivedLeads
received_leads mount (Some (object bytes doors)) target is =
    let read = is_read mount bytes doors target is in
    onto_stack mount read.kind read.fields target read.leads_there read.same
received_leads mount (Some context) target is = absurd cc
received_leads mount None target is = absurd cc

some_same : (a b : Door) → Some a ≡ Some b → a ≡ b
some_same a b is = cc

-- the door of a received object, which came into the domain, is that of a view
pub received-leads_to_view : (mount : Mount) (bytes : List ℕ) (doors : List Door) (target : Target) (start end : Reading) (old new : Doors) (made : Object) → start ≡ unread bytes doors → received mount (Some (object bytes doors)) ≡ Some target
    → UnmarshalsAny is_built form_at old new start end made → LeadsToView mount new made
received-leads_to_view mount bytes doors target start end old new made from is got door held =
    let there = received_leads mount (Some (object bytes doors)) target is in
    let same : target ≡ target_of target.kind got.reads.fields = sym (received-target mount bytes doors target start end old new made from is got) in
    let which : got.reads.fields.door ≡ door = some_same (got.reads.fields.door) door (sym got.reads.enters.changed ∙ held) in
    ap (λ (d : Door). is_view_in mount.nodes d.node) (sym which) ∙ ap (λ (t : Target). is_view_in mount.nodes t.view) (sym same) ∙ there.view

-- what is received is on the stack, under any name
pub on_stack-received : (mount : Mount) (kept : Option Kept) (target : Target) (name word : List ℕ) → received mount kept ≡ Some target → IsOnStack mount (record { name = name; target = target; word = word })
on_stack-received mount kept target name word is =
    let there = received_leads mount kept target is in
    record { view = there.view; file = there.file; chosen = there.chosen }

-- all lead onto the stack, with one more that was received and is of any life
pub on_stack-opened : (mount : Mount) (objects : List OpenObject) (kept : Option Kept) (target : Target) (name word : List ℕ) (life : ℕ) → AllByRecursion (IsOnStack mount) objects → received mount kept ≡ Some target → AllByRecursion (IsOnStack mount) (with_object objects name (record target { life = life }) word)
on_stack-opened mount objects kept target name word life all is =
    let there = received_leads mount kept target is in
    on_stack-with_object mount objects name word (record target { life = life }) all there.view there.file there.chosen

length-object_bytes : (id : ℕ) (form : Form) (tag : ℕ) (name : List ℕ) → length (object_bytes id form 0 tag name) ≡ object_len form name
length-object_bytes id form tag name =
    let outer = length-append (number_bytes 2 id ++ number_bytes 4 0) (tail_bytes form tag name) in
    let inner = length-append (number_bytes 2 id) (number_bytes 4 0) in
    let first = length-number_bytes 2 id in
    let second = length-number_bytes 4 0 in
    let third = length-tail_bytes form tag name in
    omega arith

-- an object that was sent alone comes next
comes_next : (id : ℕ) (form : Form) (fields : Fields) → ComesNext id form fields (unread (object_bytes id form 0 fields.tag fields.name) (fields.door ∷ []))
comes_next id form fields =
    record {
      more = [];
      bytes = sym (append-nil (object_bytes id form 0 fields.tag fields.name));
      door_there = refl;
      few = lit< tt;
    }

-- an object that was sent alone is received if it leads onto the stack
pub stored_is_received : (mount : Mount) (kind : ObjectKind) (fields : Fields) → AreFieldsOf (form_of kind) fields → leads mount kind fields ≡ true
    → received mount (Some (stored_object kind fields.door fields.tag fields.name)) ≡ Some (target_of kind fields)
stored_is_received mount kind fields are there =
    let form : Form = form_of kind in
    let bytes : List ℕ = object_bytes (id_of kind) form 0 fields.tag fields.name in
    let doors : List Door = fields.door ∷ [] in
    let start : Reading = unread bytes doors in
    let next = comes_next (id_of kind) form fields in
    let id : number_at 2 start ≡ Ok (id_of kind) = id_is_read start (id_of kind) form fields (id_fits kind) next in
    let read : fields_behind form start ≡ Ok fields = fields_are_read start (id_of kind) form fields are next in
    let len : eqb (length bytes) (object_len form fields.name) ≡ true = eq-eqb (length bytes) (object_len form fields.name) (length-object_bytes (id_of kind) form fields.tag fields.name) in
    ap (object_by mount bytes doors) id
    ∙ ap (object_of_kind mount bytes doors) (kind_of-id kind)
    ∙ ap (target_by mount bytes doors kind) read
    ∙ ap (λ (b : Bool). cond ((b && true) && leads mount kind fields) (Some (target_of kind fields)) None) len
    ∙ ap (λ (b : Bool). cond b (Some (target_of kind fields)) None) there

leads_there : (view first second : Bool) → view ≡ true → first ≡ true → second ≡ true → (view && first && second) ≡ true
leads_there true true true v f s = refl
leads_there false first second v f s = absurd cc
leads_there true false second v f s = absurd cc
leads_there true true false v f s = absurd cc

-- the name is shorter than the object
kept_short : (kind : ObjectKind) (path : List ℕ) → object_len (form_of kind) (name_for kind path) < 2 ^ 32 → length (name_for kind path) < 2 ^ 32
kept_short Singleton path short = lit< tt
kept_short Cluster path short = lit< tt
kept_short Caching path short = lit< tt
kept_short Reconnectable path short = omega (arith, short)

-- an object that has the door to its file
file_is_received : (mount : Mount) (kind : ObjectKind) (path : List ℕ) (node file : ℕ) → IsViewed mount node file → MayKeep kind path → IsTagOf (form_of kind) 0 → file_of kind (record { node = node; file = file }) 0 ≡ file
    → received mount (Some (stored_object kind (record { node = node; file = file }) 0 (name_for kind path))) ≡ Some (record { kind = kind; tag = 0; view = node; file = file; life = 0 })
file_is_received mount kind path node file viewed keeps tag chosen =
    let door : Door = record { node = node; file = file } in
    let fields : Fields = record { door = door; tag = 0; name = name_for kind path } in
    let files : ℕ = length mount.files in
    let within = lt-ltb file files viewed.there in
    let are : AreFieldsOf (form_of kind) fields = record { tag = tag; name = keeps.name; small = lit< tt; short = kept_short kind path keeps.short } in
    stored_is_received mount kind fields are
    (leads_there (is_view_in mount.nodes node) (ltb file files) (ltb (file_of kind door 0) files) viewed.view within (ap (λ (n : ℕ). ltb n files) chosen ∙ within))
    ∙ ap (λ (n : ℕ). let t : Target = record { kind = kind; tag = 0; view = node; file = n; life = 0 } in Some t) chosen

cluster_is_received : (mount : Mount) (path : List ℕ) (node file : ℕ) → IsViewed mount node file → MayKeep Cluster path → received mount (Some (bound_object Cluster path node file)) ≡ Some (bound_target Cluster node file)
cluster_is_received mount path node file viewed keeps =
    let files : ℕ = length mount.files in
    let fields : Fields = record { door = record { node = node; file = 0 }; tag = file; name = [] } in
    let there : file < files = viewed.there in
    let first : 0 < files = omega (arith, there) in
    stored_is_received mount Cluster fields (record { tag = tt; name = refl; small = viewed.small; short = lit< tt })
    (leads_there (is_view_in mount.nodes node) (ltb 0 files) (ltb file files) viewed.view (lt-ltb 0 files first) (lt-ltb file files there))

pub bound_is_received : BoundIsReceived
bound_is_received mount Singleton path node file viewed keeps = file_is_received mount Singleton path node file viewed keeps refl refl
bound_is_received mount Cluster path node file viewed keeps = cluster_is_received mount path node file viewed keeps
bound_is_received mount Caching path node file viewed keeps = file_is_received mount Caching path node file viewed keeps refl refl
bound_is_received mount Reconnectable path node file viewed keeps = file_is_received mount Reconnectable path node file viewed keeps refl refl

pub starts_bound : StartsBound
starts_bound path node file =
    ap (λ (bytes : List ℕ). object bytes (record { node = node; file = file } ∷ [])) (sym (append-nil (number_bytes 2 1 ++ number_bytes 4 0)))
