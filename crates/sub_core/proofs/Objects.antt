-- Laws of objects that are sent.
use Rattle.std.proofs.Common.{◌≡◌, ℕ, Bool, true, cond, List, [], ◌∷◌, ◌++◌, length, Option, Some, Ok, Err, refl, sym, ap, ◌∙◌, add-zero, append_assoc}
use Rattle.std.specs.Prelude.{slice_get}
use Rattle.std.specs.Option.{option_map}
use Rattle.std.specs.Str.{bytes_eq}
use Rattle.std.proofs.lemmas.List.{drop_at}
use Rattle.marshal_buf.specs.declared.door.Door.{Door}
use Rattle.marshal_buf.specs.Numbers.{number_bytes}
use Rattle.marshal_buf.specs.Held.{Held}
use Rattle.marshal_buf.specs.Reading.{Reading, rest_of, door_at, past}
use Rattle.marshal_buf.proofs.NumberLaws.{length-number_bytes}
use Rattle.marshal_buf.proofs.Readings.{number_is_read, counted_is_read, door_is_read, rest_behind}
use Rattle.domain_doors.specs.Doors.{Doors}
use Rattle.text_words.specs.Words.{is_path_word}
use Rattle.sub_core.specs.Names.{manager_name}
use Rattle.stack_accept.specs.Mount.{Mount}
use Rattle.sub_core.specs.declared.shape.Form.{Form}
use Rattle.sub_core.specs.declared.shape.Form.TheVariants.{Bare, Tagged, Managed, Pathed}
use Rattle.sub_core.specs.declared.values.Object.{Object}
use Rattle.sub_core.specs.declared.values.Route.{Route}
use Rattle.sub_core.specs.Forms.{tail_bytes, object_bytes}
use Rattle.sub_core.specs.Fields.{Fields, tagged, named, tail_at, door_and}
use Rattle.sub_core.specs.Calls.{Marshals, door_of}
use Rattle.sub_core.specs.Laws.{ComesNext, AreFieldsOf, IdIsRead, FieldsAreRead, StandsAtEnd, SentArrives}
use Rattle.sub_core.proofs.Taken.{fields_at_door}

-- an object's bytes and what follows them, from the identifier on
parts : (id : ℕ) (form : Form) (index tag : ℕ) (name more : List ℕ) → object_bytes id form index tag name ++ more ≡ number_bytes 2 id ++ (number_bytes 4 index ++ (tail_bytes form tag name ++ more))
parts id form index tag name more =
    append_assoc (number_bytes 2 id ++ number_bytes 4 index) (tail_bytes form tag name) more
    ∙ append_assoc (number_bytes 2 id) (number_bytes 4 index) (tail_bytes form tag name ++ more)

pub id_is_read : IdIsRead
id_is_read r id form fields fits next =
    number_is_read r 2 id (number_bytes 4 r.next ++ (tail_bytes form fields.tag fields.name ++ next.more)) fits (next.bytes ∙ parts id form r.next fields.tag fields.name next.more)

-- a name that is allowed
allowed : (allows : List ℕ → Bool) (at : ℕ) (name : List ℕ) → allows name ≡ true → named allows at (Ok name) ≡ Ok (0, name)
allowed allows at name h = ap (λ (b : Bool). cond b (Ok (0, name)) (Err at)) h

-- the tag and the name that come next
tail_is_read : (r : Reading) (form : Form) (fields : Fields) (more : List ℕ) → AreFieldsOf form fields → rest_of r ≡ tail_bytes form fields.tag fields.name ++ more → tail_at form r ≡ Ok (fields.tag, fields.name)
tail_is_read r Bare fields more are next = rw (are.tag, are.name) refl
tail_is_read r Tagged fields more are next = ap tagged (number_is_read r 4 fields.tag more are.small next) ∙ ap (λ (name : List ℕ). Ok (fields.tag, name)) (sym are.name)
tail_is_read r Managed fields more are next =
    ap (named (λ name. bytes_eq name manager_name) r.at) (counted_is_read r fields.name more are.short next)
    ∙ allowed (λ name. bytes_eq name manager_name) r.at fields.name (ap (λ (name : List ℕ). bytes_eq name manager_name) are.name)
    ∙ ap (λ (n : ℕ). Ok (n, fields.name)) (sym are.tag)
tail_is_read r Pathed fields more are next =
    ap (named is_path_word r.at) (counted_is_read r fields.name more are.short next)
    ∙ allowed is_path_word r.at fields.name are.name
    ∙ ap (λ (n : ℕ). Ok (n, fields.name)) (sym are.tag)

pub fields_are_read : FieldsAreRead
fields_are_read r id form fields are next =
    let behind : Reading = past 2 0 r in
    let tail : List ℕ = tail_bytes form fields.tag fields.name ++ next.more in
    let index : behind.next ≡ r.next = add-zero r.next in
    let rest : rest_of behind ≡ number_bytes 4 r.next ++ tail =
    rest_behind (number_bytes 2 id) (number_bytes 4 r.next ++ tail) 2 0 r (length-number_bytes 2 id) (next.bytes ∙ parts id form r.next fields.tag fields.name next.more) in
    let read : door_at behind ≡ Ok fields.door =
    door_is_read behind fields.door tail (rw index next.few) (rw index next.door_there) (rw index rest) in
    let rest_tail : rest_of (past 4 1 behind) ≡ tail =
    rest_behind (number_bytes 4 r.next) tail 4 1 behind (length-number_bytes 4 r.next) rest in
    fields_at_door form behind (past 4 1 behind) fields.door (sym read) refl
    ∙ ap (door_and fields.door) (tail_is_read (past 4 1 behind) form fields next.more are rest_tail)

-- the item behind a front
get_behind : {X : Type 0} (front : List X) (x : X) (more : List X) → slice_get (front ++ x ∷ more) (length front) ≡ Some x
get_behind [] x more = refl
get_behind (y ∷ front) x more = get_behind front x more

-- what an object says that has this door
abbrev pub saying : Object → Door → Fields
saying object door = record { door = door; tag = object.tag; name = object.name }

-- the object that was sent comes next
sent_comes_next : (form : Form) (object : Object) (from_old from_new : Doors) (old new : Held) (start : Reading) (sent : Marshals form object from_old from_new old new) → StandsAtEnd old new start → ComesNext object.sub form (saying object sent.door) start
sent_comes_next form object from_old from_new old new start sent stands =
    let bytes : List ℕ = object_bytes object.sub form (length old.doors) object.tag object.name in
    let input : start.input ≡ old.bytes ++ (bytes ++ stands.more) =
    stands.input ∙ ap (λ (xs : List ℕ). xs ++ stands.more) sent.puts.bytes ∙ append_assoc old.bytes bytes stands.more in
    let doors : start.doors ≡ old.doors ++ (sent.door ∷ stands.more_doors) =
    stands.doors ∙ ap (λ (xs : List Door). xs ++ stands.more_doors) sent.puts.doors ∙ append_assoc old.doors (sent.door ∷ []) stands.more_doors in
    record {
      more = stands.more;
      bytes = rw (stands.next, stands.at, input) (drop_at old.bytes (bytes ++ stands.more) (length old.bytes) refl);
      door_there = rw (stands.next, doors) (get_behind old.doors sent.door stands.more_doors);
      few = rw stands.next stands.few;
    }

pub arrives : (form : Form) (route : Mount → ℕ → Door → ℕ → Route) → SentArrives form route
arrives form route from to_old to_new object received is =
    let next = sent_comes_next form object from is.from_new is.old is.new is.start is.sent is.stands in
    let are : AreFieldsOf form (saying object is.sent.door) = record { tag = is.of.tag; name = is.of.name; small = is.small; short = is.short } in
    let read = fields_are_read is.start object.sub form (saying object is.sent.door) are next in
    let fields : is.got.fields ≡ saying object is.sent.door = cc (is.got.read, read) in
    let door : is.got.fields.door ≡ is.sent.door = ap (λ (f : Fields). f.door) fields in
    let tag : received.tag ≡ object.tag = is.got.tag ∙ ap (λ (f : Fields). f.tag) fields in
    let there : door_of to_new received ≡ door_of from object = is.got.enters.changed ∙ ap Some door ∙ sym is.sent.held in
    record {
      tag = tag;
      name = is.got.name ∙ ap (λ (f : Fields). f.name) fields;
      route_is = λ mount machine.
          ap (λ (held : Option Door). option_map (λ d. route mount machine d received.tag) held) there
          ∙ ap (λ (n : ℕ). option_map (λ d. route mount machine d n) (door_of from object)) tag;
    }
