-- What is spelled is read.
use Rattle.std.proofs.Common.{◌≡◌, ℕ, zero, suc, ◌+◌, ◌^◌, ◌<◌, Bool, true, false, cond, ltb, List, [], ◌∷◌, ◌++◌, length, drop, get_or, Option, Some, None, Ok, Err, refl, sym, ap, ◌∙◌, subst, arith, append_assoc, length-append}
use Rattle.std.specs.Prelude.{slice_get}
use Rattle.std.specs.Str.{is_utf8}
use Rattle.std.proofs.lemmas.Str.{is_utf8-from_IsUtf8}
use Rattle.std.proofs.lemmas.Bool.{lt-ltb}
use Rattle.marshal_buf.specs.declared.door.Door.{Door}
use Rattle.marshal_buf.specs.Numbers.{number_bytes}
use Rattle.marshal_buf.specs.Reading.{Reading, rest_of, past, door_at}
use Rattle.marshal_buf.proofs.NumberLaws.{length-number_bytes}
use Rattle.marshal_buf.proofs.Readings.{door_is_read}
use Rattle.idl_reader.specs.Tree.{TypeTree, OfBool, OfU8, OfU32, OfU64, OfString, OfBytes, SequenceOf, OfName}
use Rattle.idl_reader.specs.declared.idl.Word.{Word}
use Rattle.marshal_value.specs.Tree.{Tree, AsBool, AsU8, AsU32, AsU64, AsText, AsBytes, AsSequence, AsStruct, AsEnum, AsReference, Trees, none, one}
use Rattle.marshal_buf.specs.Counted.{counted}
use Rattle.marshal_value.specs.Spelling.{count, spelling, spelling_of_all, doors_of, doors_of_all}
use Rattle.marshal_value.specs.declared.why.ValueWhy.TheVariants as why
use Rattle.marshal_value.specs.Types.{Kind, Fields, Names, Object, Table, IsOf, AreOfOne, AreOf, IsNamed, AreNamed, IsKind, IsDeclared}
use Rattle.marshal_value.specs.Reading.{Reads, ◌>>=◌, part_from, flag_at, bool_at, u8_at, u32_at, u64_at, counted_at, bytes_at, text_at, enum_at, or_index, reference_at, values_at, sequence_at, fields_at, kind_at, type_at, named_at, ComesNext, behind}
use Rattle.marshal_value.proofs.Steps.{past_past, past_nothing, rest_behind, doors_behind, number_again, part_again}

-- a value that comes next is read, and the reading goes on behind it
abbrev pub Again : (Tree → Type 0) → (Reading → Reads Tree) → Type 0
Again P read = (r : Reading) (v : Tree) (more : List ℕ) (more_doors : List Door) → length r.doors < 2 ^ 32 → P v → ComesNext v more more_doors r → read r ≡ Ok (v, behind v r)

bool_again : (table : Table) → Again (IsOf table OfBool) bool_at
unfolding bool_at
bool_again table r (AsBool true) more doors few h next = ap (λ (x : Reads (List ℕ)). x >>= λ byte. flag_at r.at (get_or byte.0 0 0) byte.1) (part_again (1 ∷ []) more r next.bytes)
bool_again table r (AsBool false) more doors few h next = ap (λ (x : Reads (List ℕ)). x >>= λ byte. flag_at r.at (get_or byte.0 0 0) byte.1) (part_again (0 ∷ []) more r next.bytes)
bool_again table r v more doors few h next = absurd h

u8_again : (table : Table) → Again (IsOf table OfU8) u8_at
unfolding u8_at
u8_again table r (AsU8 n) more doors few h next = ap (λ (x : Reads (List ℕ)). x >>= λ byte. Ok (AsU8 (get_or byte.0 0 0), byte.1)) (part_again (n ∷ []) more r next.bytes)
u8_again table r v more doors few h next = absurd h

number_len : (n x : ℕ) (d : ℕ) (r : Reading) → past n d r ≡ past (length (number_bytes n x)) d r
number_len n x d r = ap (λ (k : ℕ). past k d r) (sym (length-number_bytes n x))

u32_again : (table : Table) → Again (IsOf table OfU32) u32_at
unfolding u32_at
u32_again table r (AsU32 n) more doors few h next = ap (λ (x : Reads ℕ). x >>= λ n. Ok (AsU32 n.0, n.1)) (number_again 4 n more r (omega arith) next.bytes) ∙ ap (λ (s : Reading). Ok (AsU32 n, s)) (number_len 4 n 0 r)
u32_again table r v more doors few h next = absurd h

u64_again : (table : Table) → Again (IsOf table OfU64) u64_at
unfolding u64_at
u64_again table r (AsU64 n) more doors few h next = ap (λ (x : Reads ℕ). x >>= λ n. Ok (AsU64 n.0, n.1)) (number_again 8 n more r (omega arith) next.bytes) ∙ ap (λ (s : Reading). Ok (AsU64 n, s)) (number_len 8 n 0 r)
u64_again table r v more doors few h next = absurd h

counted_again : (part more : List ℕ) (r : Reading) → length part < 2 ^ 32 → rest_of r ≡ counted part ++ more → counted_at r ≡ Ok (part, past (length (counted part)) 0 r)
unfolding counted_at
counted_again part more r fits e =
    let len = length-number_bytes 4 (length part) in
    let first : rest_of r ≡ number_bytes 4 (length part) ++ (part ++ more) = e ∙ append_assoc (number_bytes 4 (length part)) part more in
    let second = rest_behind (number_bytes 4 (length part)) (part ++ more) 4 0 r len first in
    ap (λ (x : Reads ℕ). x >>= λ n. part_from n.0 n.1) (number_again 4 (length part) (part ++ more) r (omega arith) first)
    ∙ part_again part more (past 4 0 r) second
    ∙ ap (λ (s : Reading). Ok (part, s)) (past_past 4 0 (length part) 0 r ∙ ap (λ (k : ℕ). past k 0 r) (omega (arith, len, length-append (number_bytes 4 (length part)) part)))

bytes_again : (table : Table) → Again (IsOf table OfBytes) bytes_at
unfolding bytes_at
bytes_again table r (AsBytes part) more doors few h next = ap (λ (x : Reads (List ℕ)). x >>= λ part. Ok (AsBytes part.0, part.1)) (counted_again part more r h next.bytes)
bytes_again table r v more doors few h next = absurd h

text_again : (table : Table) → Again (IsOf table OfString) text_at
unfolding text_at
text_again table r (AsText part) more doors few h next =
    ap (λ (x : Reads (List ℕ)). x >>= λ part. cond (is_utf8 part.0) (Ok (AsText part.0, part.1)) (Err (record { at = r.at; why = why.Utf8 }))) (counted_again part more r h.1 next.bytes)
    ∙ ap (λ (b : Bool). cond b (Ok (AsText part, past (length (counted part)) 0 r)) (Err (record { at = r.at; why = why.Utf8 }))) (is_utf8-from_IsUtf8 part h.0)
text_again table r v more doors few h next = absurd h

enum_again : (names : ℕ) → (r : Reading) (position : ℕ) (more : List ℕ) → position < names → position < 2 ^ 32 → rest_of r ≡ number_bytes 4 position ++ more → enum_at names r ≡ Ok (AsEnum position, behind (AsEnum position) r)
unfolding enum_at
enum_again names r position more within fits e =
    ap (λ (x : Reads ℕ). x >>= λ n. cond (ltb n.0 names) (Ok (AsEnum n.0, n.1)) (Err (record { at = r.at; why = why.Enum }))) (number_again 4 position more r (omega arith) e)
    ∙ ap (λ (b : Bool). cond b (Ok (AsEnum position, past 4 0 r)) (Err (record { at = r.at; why = why.Enum }))) (lt-ltb position names within)
    ∙ ap (λ (s : Reading). Ok (AsEnum position, s)) (number_len 4 position 0 r)

-- the first of the doors that are left
first_left : (doors : List Door) (n : ℕ) (door : Door) (more : List Door) → drop n doors ≡ door ∷ more → (slice_get doors n ≡ Some door) × (n < length doors)
first_left [] zero door more e = absurd cc
first_left [] (suc n) door more e = absurd cc
first_left (d ∷ ds) zero door more e = (ap Some (cc), omega arith)
first_left (d ∷ ds) (suc n) door more e = let rest = first_left ds n door more e in (rest.0, omega (arith, rest.1))

reference_again : (r : Reading) (door : Door) (more : List ℕ) (more_doors : List Door) → length r.doors < 2 ^ 32 → ComesNext (AsReference door) more more_doors r → reference_at r ≡ Ok (AsReference door, behind (AsReference door) r)
unfolding reference_at
reference_again r door more more_doors few next =
    let first = first_left r.doors r.next door more_doors next.doors in
    let fits : r.next < 2 ^ 32 = omega (arith, first.1) in
    ap (λ (x : Reads ℕ). x >>= λ n. or_index r (door_at r)) (number_again 4 r.next more r (omega arith) next.bytes)
    ∙ ap (or_index r) (door_is_read r door more fits first.0 next.bytes)
    ∙ ap (λ (s : Reading). Ok (AsReference door, s)) (number_len 4 r.next 1 r)

-- ---- several values

past_all : (a b : List ℕ) (d e : List Door) (r : Reading) → past (length b) (length e) (past (length a) (length d) r) ≡ past (length (a ++ b)) (length (d ++ e)) r
past_all a b d e r =
    past_past (length a) (length d) (length b) (length e) r
    ∙ ap (λ (n : ℕ). past n (length d + length e) r) (sym (length-append a b))
    ∙ ap (λ (n : ℕ). past (length (a ++ b)) n r) (sym (length-append d e))

-- the values, their doors and what follows them come next
record ComeNext (vs : Trees) (more : List ℕ) (more_doors : List Door) (r : Reading) : Type 0 where
  bytes : rest_of r ≡ spelling_of_all r.next vs ++ more
  doors : drop r.next r.doors ≡ doors_of_all vs ++ more_doors

abbrev behind_all : Trees → Reading → Reading
behind_all vs r = past (length (spelling_of_all r.next vs)) (length (doors_of_all vs)) r

first_next : (v : Tree) (vs : Trees) (more : List ℕ) (more_doors : List Door) (r : Reading) → ComeNext (one v vs) more more_doors r → ComesNext v (spelling_of_all (r.next + length (doors_of v)) vs ++ more) (doors_of_all vs ++ more_doors) r
first_next v vs more more_doors r next = record {
  bytes = next.bytes ∙ append_assoc (spelling r.next v) (spelling_of_all (r.next + length (doors_of v)) vs) more;
  doors = next.doors ∙ append_assoc (doors_of v) (doors_of_all vs) more_doors;
}

others_next : (v : Tree) (vs : Trees) (more : List ℕ) (more_doors : List Door) (r : Reading) → ComesNext v (spelling_of_all (r.next + length (doors_of v)) vs ++ more) (doors_of_all vs ++ more_doors) r → ComeNext vs more more_doors (behind v r)
others_next v vs more more_doors r next = record {
  bytes = rest_behind (spelling r.next v) (spelling_of_all (r.next + length (doors_of v)) vs ++ more) _ (length (doors_of v)) r refl next.bytes;
  doors = doors_behind (doors_of v) (doors_of_all vs ++ more_doors) (length (spelling r.next v)) _ r refl next.doors;
}

module _ (table : Table) where
  values_again : (ty : TypeTree) (read : Reading → Reads Tree) → Again (IsOf table ty) read → (vs : Trees) (more : List ℕ) (more_doors : List Door) (r : Reading) → length r.doors < 2 ^ 32 → AreOfOne table ty vs → ComeNext vs more more_doors r → values_at read (count vs) r ≡ Ok (vs, behind_all vs r)
  unfolding values_at
  values_again ty read again none more more_doors r few h next = ap (λ (s : Reading). Ok (none, s)) (sym (past_nothing r))
  values_again ty read again (one v vs) more more_doors r few h next =
      let next_first = first_next v vs more more_doors r next in
      let next_others = others_next v vs more more_doors r next_first in
      ap (λ (x : Reads Tree). x >>= λ v. values_at read (count vs) v.1 >>= λ vs. Ok (one v.0 vs.0, vs.1)) (again r v _ _ few h.0 next_first)
      ∙ ap (λ (x : Reads Trees). x >>= λ vs. Ok (one v vs.0, vs.1)) (values_again ty read again vs more more_doors (behind v r) few h.1 next_others)
      ∙ ap (λ (s : Reading). Ok (one v vs, s)) (past_all (spelling r.next v) (spelling_of_all (r.next + length (doors_of v)) vs) (doors_of v) (doors_of_all vs) r)

  fields_again : (named : List ℕ → Type 0) (read : TypeTree → Reading → Reads Tree) → ((ty : TypeTree) → IsNamed named ty → Again (IsOf table ty) (read ty)) → (tys : List TypeTree) → AreNamed named tys → (vs : Trees) (more : List ℕ) (more_doors : List Door) (r : Reading) → length r.doors < 2 ^ 32 → AreOf table tys vs → ComeNext vs more more_doors r → fields_at read tys r ≡ Ok (vs, behind_all vs r)
  unfolding fields_at
  fields_again named read again [] known none more more_doors r few h next = ap (λ (s : Reading). Ok (none, s)) (sym (past_nothing r))
  fields_again named read again [] known (one v vs) more more_doors r few h next = absurd h
  fields_again named read again (ty ∷ tys) known none more more_doors r few h next = absurd h
  fields_again named read again (ty ∷ tys) known (one v vs) more more_doors r few h next =
      let next_first = first_next v vs more more_doors r next in
      let next_others = others_next v vs more more_doors r next_first in
      ap (λ (x : Reads Tree). x >>= λ v. fields_at read tys v.1 >>= λ vs. Ok (one v.0 vs.0, vs.1)) (again ty known.0 r v _ _ few h.0 next_first)
      ∙ ap (λ (x : Reads Trees). x >>= λ vs. Ok (one v vs.0, vs.1)) (fields_again named read again tys known.1 vs more more_doors (behind v r) few h.1 next_others)
      ∙ ap (λ (s : Reading). Ok (one v vs, s)) (past_all (spelling r.next v) (spelling_of_all (r.next + length (doors_of v)) vs) (doors_of v) (doors_of_all vs) r)

  sequence_again : (of : TypeTree) (read : Reading → Reads Tree) → Again (IsOf table of) read → Again (IsOf table (SequenceOf of)) (sequence_at read)
  unfolding sequence_at
  sequence_again of read again r (AsSequence vs) more more_doors few h next =
      let len = length-number_bytes 4 (count vs) in
      let first : rest_of r ≡ number_bytes 4 (count vs) ++ (spelling_of_all r.next vs ++ more) = next.bytes ∙ append_assoc (number_bytes 4 (count vs)) (spelling_of_all r.next vs) more in
      let same : r.next + 0 ≡ r.next = omega arith in
      let come : ComeNext vs more more_doors (past 4 0 r) = record {
        bytes = rest_behind (number_bytes 4 (count vs)) (spelling_of_all r.next vs ++ more) 4 0 r len first ∙ ap (λ (n : ℕ). spelling_of_all n vs ++ more) (sym same);
        doors = ap (λ (n : ℕ). drop n r.doors) same ∙ next.doors;
      } in
      ap (λ (x : Reads ℕ). x >>= λ n. values_at read n.0 n.1 >>= λ vs. Ok (AsSequence vs.0, vs.1)) (number_again 4 (count vs) (spelling_of_all r.next vs ++ more) r (omega (arith, h.0)) first)
      ∙ ap (λ (x : Reads Trees). x >>= λ vs. Ok (AsSequence vs.0, vs.1)) (values_again of read again vs more more_doors (past 4 0 r) few h.1 come)
      ∙ ap (λ (n : ℕ). Ok (AsSequence vs, past (length (spelling_of_all n vs)) (length (doors_of_all vs)) (past 4 0 r))) same
      ∙ ap (λ (n : ℕ). Ok (AsSequence vs, past (length (spelling_of_all r.next vs)) (length (doors_of_all vs)) (past n 0 r))) (sym len)
      ∙ ap (λ (s : Reading). Ok (AsSequence vs, s)) (past_all (number_bytes 4 (count vs)) (spelling_of_all r.next vs) [] (doors_of_all vs) r)
  sequence_again of read again r v more more_doors few h next = absurd h

  type_again : (named : List ℕ → Type 0) (read : List ℕ → Reading → Reads Tree) → ((name : Word) → named name.text → Again (IsOf table (OfName name)) (read name.text)) → (ty : TypeTree) → IsNamed named ty → Again (IsOf table ty) (type_at read ty)
  unfolding type_at
  type_again named read again OfBool known = bool_again table
  type_again named read again OfU8 known = u8_again table
  type_again named read again OfU32 known = u32_again table
  type_again named read again OfU64 known = u64_again table
  type_again named read again OfString known = text_again table
  type_again named read again OfBytes known = bytes_again table
  type_again named read again (SequenceOf of) known = sequence_again of (type_at read of) (type_again named read again of known)
  type_again named read again (OfName name) known = again name known

  kind_again : (named : List ℕ → Type 0) (read : TypeTree → Reading → Reads Tree) → ((ty : TypeTree) → IsNamed named ty → Again (IsOf table ty) (read ty)) → (name : Word) (kind : Option Kind) → table name.text ≡ kind → IsKind named kind → Again (IsOf table (OfName name)) (kind_at read kind)
  kind_again named read again name None is known r v more more_doors few h next = absurd known
  kind_again named read again name (Some (Fields tys)) is known r (AsStruct vs) more more_doors few h next =
      let same : h.0 ≡ tys = cc in
      ap (λ (x : Reads Trees). x >>= λ vs. Ok (AsStruct vs.0, vs.1)) (fields_again named read again tys known vs more more_doors r few (subst (λ (ts : List TypeTree). AreOf table ts vs) same h.2) (record { bytes = next.bytes; doors = next.doors }))
  kind_again named read again name (Some (Fields tys)) is known r (AsEnum position) more more_doors few h next = absurd cc
  kind_again named read again name (Some (Fields tys)) is known r (AsReference door) more more_doors few h next = absurd cc
  kind_again named read again name (Some (Names names)) is known r (AsEnum position) more more_doors few h next =
      let same : h.0 ≡ names = cc in
      enum_again names r position more (omega arith) h.3 next.bytes
  kind_again named read again name (Some (Names names)) is known r (AsStruct vs) more more_doors few h next = absurd cc
  kind_again named read again name (Some (Names names)) is known r (AsReference door) more more_doors few h next = absurd cc
  kind_again named read again name (Some Object) is known r (AsReference door) more more_doors few h next = reference_again r door more more_doors few next
  kind_again named read again name (Some Object) is known r (AsStruct vs) more more_doors few h next = absurd cc
  kind_again named read again name (Some Object) is known r (AsEnum position) more more_doors few h next = absurd cc
  kind_again named read again name kind is known r v more more_doors few h next = absurd h

  pub named_again : (depth : ℕ) (name : Word) → IsDeclared table depth name.text → Again (IsOf table (OfName name)) (named_at table depth name.text)
  unfolding IsDeclared named_at
  named_again zero name known = absurd known
  named_again (suc depth) name known =
      kind_again (IsDeclared table depth) (type_at (named_at table depth)) (type_again (IsDeclared table depth) (named_at table depth) (named_again depth)) name (table name.text) refl known

  -- what is spelled is read, whatever follows it
  pub value_again : (depth : ℕ) (ty : TypeTree) → IsNamed (IsDeclared table depth) ty → Again (IsOf table ty) (type_at (named_at table depth) ty)
  value_again depth ty known = type_again (IsDeclared table depth) (named_at table depth) (named_again depth) ty known
