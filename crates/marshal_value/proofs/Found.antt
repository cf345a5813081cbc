-- What is read is spelled.
use Rattle.std.proofs.Common.{◌≡◌, ℕ, zero, suc, ◌+◌, ◌^◌, ◌<◌, ◌≤◌, Bool, true, false, cond, ltb, eqb, List, [], ◌∷◌, ◌++◌, length, take, drop, get_or, Option, Some, None, Result, Ok, Err, refl, sym, ap, ◌∙◌, subst, inl, inr, arith, add-zero, add-one, append_assoc, length-append, length-take, take-append-drop}
use Rattle.std.specs.Prelude.{slice_get}
use Rattle.std.specs.Str.{is_utf8}
use Rattle.std.proofs.lemmas.Str.{IsUtf8-from_is_utf8}
use Rattle.std.proofs.lemmas.Bool.{ltb-true, ltb-false, eqb-true, cases_lt}
use Rattle.std.proofs.lemmas.List.{get_or-drop, get_or-take, get_or_past}
use Rattle.marshal_buf.specs.declared.door.Door.{Door}
use Rattle.marshal_buf.specs.declared.why.Short.{Short}
use Rattle.marshal_buf.specs.declared.why.BadDoor.{BadDoor}
use Rattle.marshal_buf.specs.Numbers.{number_bytes, number_of}
use Rattle.marshal_buf.specs.Reading.{Reading, rest_of, past, door_at, or_bad_at}
use Rattle.marshal_buf.proofs.NumberLaws.{length-number_bytes, number_of_part, number_of-fits, number_bytes-number_of_4, number_bytes-number_of_8}
use Rattle.idl_reader.specs.Tree.{TypeTree, OfBool, OfU8, OfU32, OfU64, OfString, OfBytes, SequenceOf, OfName}
use Rattle.idl_reader.specs.declared.idl.Word.{Word}
use Rattle.marshal_value.specs.Tree.{Tree, AsBool, AsU8, AsU32, AsU64, AsText, AsBytes, AsSequence, AsStruct, AsEnum, AsReference, Trees, none, one}
use Rattle.marshal_buf.specs.Counted.{counted}
use Rattle.marshal_value.specs.Spelling.{count, spelling, spelling_of_all, doors_of, doors_of_all}
use Rattle.marshal_value.specs.declared.why.BadValue.{BadValue}
use Rattle.marshal_value.specs.declared.why.ValueWhy.TheVariants as why
use Rattle.marshal_value.specs.Types.{Kind, Fields, Names, Object, Table, IsOf, AreOfOne, AreOf}
use Rattle.marshal_value.specs.Reading.{Reads, ◌>>=◌, bad, or_short, number_from, part_from, flag_at, bool_at, u8_at, u32_at, u64_at, counted_at, bytes_at, text_at, enum_at, or_index, reference_at, values_at, sequence_at, fields_at, kind_at, type_at, named_at, ComesNext, behind}
use Rattle.marshal_value.proofs.Steps.{rest_past, past_past, past_nothing, bind_ok, read, read_is}

-- the bytes of an input are bytes, and its doors have indices
pub record IsSound (r : Reading) : Type 0 where
  pub bytes : (i : ℕ) → get_or r.input i 0 < 256
  pub doors : length r.doors < 2 ^ 32

abbrev right : {X : Type 0} → X → Result X BadValue
right x = Ok x

-- a test that passed
after_test : {X : Type 0} (b : Bool) (short : Short) (x y : X) (after r' : Reading) → or_short after (cond b (Err short) (Ok x)) ≡ read y r' → (b ≡ false) × (x ≡ y) × (after ≡ r')
after_test true short x y after r' e = absurd cc
after_test false short x y after r' e = let same = read_is x y after r' e in (refl, same.0, same.1)

record FoundNumber (n x : ℕ) (r r' : Reading) : Type 0 where
  bytes : rest_of r ≡ number_bytes n x ++ rest_of r'
  fits : x < 256 ^ n
  place : r' ≡ past n 0 r

record FoundPart (n : ℕ) (part : List ℕ) (r r' : Reading) : Type 0 where
  bytes : rest_of r ≡ part ++ rest_of r'
  len : length part ≡ n
  place : r' ≡ past n 0 r

part_found : (n : ℕ) (part : List ℕ) (r r' : Reading) → part_from n r ≡ Ok (part, r') → FoundPart n part r r'
unfolding part_from
part_found n part r r' e =
    let t = after_test (ltb (length (rest_of r)) n) (record { at = length r.input }) (take n (rest_of r)) part (past n 0 r) r' e in
    let long : n ≤ length (rest_of r) = ltb-false _ _ t.0 in
    let rest : rest_of r' ≡ drop n (rest_of r) = ap rest_of (sym t.2) ∙ rest_past n 0 r in
    record {
      bytes = sym (take-append-drop n (rest_of r)) ∙ ap (λ (xs : List ℕ). xs ++ drop n (rest_of r)) t.1 ∙ ap (λ (xs : List ℕ). part ++ xs) (sym rest);
      len = omega (arith, ap length t.1, length-take n (rest_of r));
      place = sym t.2;
    }

-- a number of n bytes is those bytes
record IsWide (n : ℕ) : Type 0 where
  back : (bytes : List ℕ) → length bytes ≡ n → ((i : ℕ) → get_or bytes i 0 < 256) → number_bytes n (number_of n bytes) ≡ bytes

wide_4 : IsWide 4
wide_4 = record { back = number_bytes-number_of_4 }

wide_8 : IsWide 8
wide_8 = record { back = number_bytes-number_of_8 }

bytes_rest : (r : Reading) → IsSound r → (i : ℕ) → get_or (rest_of r) i 0 < 256
bytes_rest r sound i = rw get_or-drop (sound.bytes (r.at + i))

bytes_take : (n : ℕ) (bytes : List ℕ) → ((i : ℕ) → get_or bytes i 0 < 256) → (i : ℕ) → get_or (take n bytes) i 0 < 256
bytes_take n bytes fits i =
    elim (cases_lt i n) [
      | inl lt ↦ rw (get_or-take n bytes i 0 lt) (fits i)
      | inr le ↦ rw (get_or_past (take n bytes) i 0 (omega (arith, length-take n bytes))) (omega arith)
    ]

number_found : (n : ℕ) → IsWide n → (x : ℕ) (r r' : Reading) → IsSound r → number_from n r ≡ Ok (x, r') → FoundNumber n x r r'
unfolding number_from
number_found n wide x r r' sound e =
    let t = after_test (ltb (length (rest_of r)) n) (record { at = length r.input }) (number_of n (rest_of r)) x (past n 0 r) r' e in
    let long : n ≤ length (rest_of r) = ltb-false _ _ t.0 in
    let rest : rest_of r' ≡ drop n (rest_of r) = ap rest_of (sym t.2) ∙ rest_past n 0 r in
    let front : number_bytes n x ≡ take n (rest_of r) =
    ap (number_bytes n) (sym t.1 ∙ sym (number_of_part n (rest_of r)))
    ∙ wide.back (take n (rest_of r)) (omega (arith, length-take n (rest_of r))) (bytes_take n (rest_of r) (bytes_rest r sound)) in
    record {
      bytes = sym (take-append-drop n (rest_of r)) ∙ ap (λ (xs : List ℕ). xs ++ drop n (rest_of r)) (sym front) ∙ ap (λ (xs : List ℕ). number_bytes n x ++ xs) (sym rest);
      fits = subst (λ (k : ℕ). k < 256 ^ n) t.1 (number_of-fits n (rest_of r) (bytes_rest r sound));
      place = sym t.2;
    }

-- ---- plain values

-- what was read is of its kind, comes next, and the reading goes on behind it
pub record IsFound (P : Tree → Type 0) (v : Tree) (r r' : Reading) : Type 0 where
  pub of : P v
  pub next : ComesNext v (rest_of r') (drop r'.next r.doors) r
  pub place : r' ≡ behind v r

abbrev pub Finds : (Tree → Type 0) → (Reading → Reads Tree) → Type 0
Finds P read = (r r' : Reading) (v : Tree) → IsSound r → read r ≡ Ok (v, r') → IsFound P v r r'

-- no doors come with these bytes
found_plain : (P : Tree → Type 0) (v : Tree) (n : ℕ) (r r' : Reading) → P v → length (spelling r.next v) ≡ n → doors_of v ≡ [] → rest_of r ≡ spelling r.next v ++ rest_of r' → r' ≡ past n 0 r → IsFound P v r r'
found_plain P v n r r' of len no_doors bytes place = record {
  of = of;
  next = record {
    bytes = bytes;
    doors = sym (ap (λ (ds : List Door). ds ++ drop r'.next r.doors) no_doors ∙ ap (λ (s : Reading). drop s.next r.doors) place ∙ ap (λ (k : ℕ). drop k r.doors) (add-zero r.next));
  };
  place = place ∙ ap (λ (k : ℕ). past k 0 r) (sym len) ∙ ap (λ (ds : List Door). past (length (spelling r.next v)) (length ds) r) (sym no_doors);
}

single : (part : List ℕ) → length part ≡ 1 → part ≡ get_or part 0 0 ∷ []
single [] len = absurd (omega arith)
single (b ∷ []) len = refl
single (b ∷ c ∷ bs) len = absurd (omega arith)

-- a byte that comes next
record FoundByte (byte : ℕ) (r r' : Reading) : Type 0 where
  bytes : rest_of r ≡ byte ∷ rest_of r'
  fits : byte < 256
  place : r' ≡ past 1 0 r

byte_found : (part : List ℕ) (r r' : Reading) → IsSound r → part_from 1 r ≡ Ok (part, r') → FoundByte (get_or part 0 0) r r'
byte_found part r r' sound e =
    let found = part_found 1 part r r' e in
    let bytes : rest_of r ≡ get_or part 0 0 ∷ rest_of r' = found.bytes ∙ ap (λ (xs : List ℕ). xs ++ rest_of r') (single part found.len) in
    record {
      bytes = bytes;
      fits = subst (λ (xs : List ℕ). get_or xs 0 0 < 256) bytes (bytes_rest r sound 0);
      place = found.place;
    }

number_is : (n x : ℕ) (r r' : Reading) → number_from n r ≡ Ok (x, r') → number_of n (rest_of r) ≡ x
unfolding number_from
number_is n x r r' e = (after_test (ltb (length (rest_of r)) n) (record { at = length r.input }) (number_of n (rest_of r)) x (past n 0 r) r' e).1

-- ---- doors

abbrev a_door : Door → Result Door BadDoor
a_door door = Ok door

some_door : (at : ℕ) (o : Option Door) (door : Door) → or_bad_at at o ≡ a_door door → o ≡ Some door
some_door at None door e = absurd cc
some_door at (Some d) door e = cc

index_test : (b : Bool) (o : Option Door) (door : Door) → cond b o None ≡ Some door → (b ≡ true) × (o ≡ Some door)
index_test true o door e = (refl, e)
index_test false o door e = absurd cc

left_test : (b : Bool) (d : BadDoor) (x : Result Door BadDoor) (door : Door) → cond b (Err d) x ≡ a_door door → x ≡ a_door door
left_test true d x door e = absurd cc
left_test false d x door e = e

door_found : (r : Reading) (door : Door) → door_at r ≡ Ok door → (number_of 4 (rest_of r) ≡ r.next) × (slice_get r.doors r.next ≡ Some door)
door_found r door e =
    let long = left_test (ltb (length (rest_of r)) 4) (record { at = length r.input }) _ door e in
    let t = index_test (eqb (number_of 4 (rest_of r)) r.next) (slice_get r.doors r.next) door (some_door r.at _ door long) in
    (eqb-true (number_of 4 (rest_of r)) r.next t.0, t.1)

-- the doors from an index on
left_suc : (doors : List Door) (n : ℕ) (door : Door) → slice_get doors n ≡ Some door → drop n doors ≡ door ∷ drop (suc n) doors
left_suc [] n door e = absurd cc
left_suc (d ∷ ds) zero door e = ap (λ (x : Door). x ∷ ds) cc
left_suc (d ∷ ds) (suc n) door e = left_suc ds n door e

left_from : (doors : List Door) (n : ℕ) (door : Door) → slice_get doors n ≡ Some door → drop n doors ≡ door ∷ drop (n + 1) doors
left_from doors n door e = rw add-one (left_suc doors n door e)

-- ---- several values

record AreFound (P : Trees → Type 0) (vs : Trees) (r r' : Reading) : Type 0 where
  of : P vs
  bytes : rest_of r ≡ spelling_of_all r.next vs ++ rest_of r'
  doors : drop r.next r.doors ≡ doors_of_all vs ++ drop r'.next r.doors
  place : r' ≡ past (length (spelling_of_all r.next vs)) (length (doors_of_all vs)) r

abbrev reads : Trees → Reading → Reads Trees
reads vs r = Ok (vs, r)

reads_are : (x y : Trees) (r s : Reading) → reads x r ≡ reads y s → (x ≡ y) × (r ≡ s)
reads_are x y r s e =
    let same : (x, r) ≡ (y, s) = cc in
    (ap (λ (p : Trees × Reading). p.0) same, ap (λ (p : Trees × Reading). p.1) same)

all_found_at : (P : Trees → Type 0) (ws vs : Trees) (r after r' : Reading) → (ws ≡ vs) × (after ≡ r') → AreFound P ws r after → AreFound P vs r r'
all_found_at P ws vs r after r' same found = subst (λ (x : Trees). AreFound P x r r') same.0 (subst (λ (s : Reading). AreFound P ws r s) same.1 found)

no_values : (P : Trees → Type 0) (r : Reading) → P none → AreFound P none r r
no_values P r of = record { of = of; bytes = refl; doors = refl; place = sym (past_nothing r) }

one_found : (P : Tree → Type 0) (Q R : Trees → Type 0) (v : Tree) (vs : Trees) (r s r' : Reading) → IsFound P v r s → AreFound Q vs s r' → R (one v vs) → AreFound R (one v vs) r r'
one_found P Q R v vs r s r' first others of =
    let next : s.next ≡ r.next + length (doors_of v) = ap (λ (x : Reading). x.next) first.place in
    let same_doors : s.doors ≡ r.doors = ap (λ (x : Reading). x.doors) first.place in
    let after = r.next + length (doors_of v) in
    record {
      of = of;
      bytes = first.next.bytes ∙ ap (λ (xs : List ℕ). spelling r.next v ++ xs) (others.bytes ∙ ap (λ (n : ℕ). spelling_of_all n vs ++ rest_of r') next)
          ∙ sym (append_assoc (spelling r.next v) (spelling_of_all after vs) (rest_of r'));
      doors = first.next.doors ∙ ap (λ (ds : List Door). doors_of v ++ ds) (ap (λ (ds : List Door). drop s.next ds) (sym same_doors) ∙ others.doors ∙ ap (λ (ds : List Door). doors_of_all vs ++ drop r'.next ds) same_doors)
          ∙ sym (append_assoc (doors_of v) (doors_of_all vs) (drop r'.next r.doors));
      place = others.place ∙ ap (λ (n : ℕ). past (length (spelling_of_all n vs)) (length (doors_of_all vs)) s) next
          ∙ ap (λ (x : Reading). past (length (spelling_of_all after vs)) (length (doors_of_all vs)) x) first.place
          ∙ past_past (length (spelling r.next v)) (length (doors_of v)) (length (spelling_of_all after vs)) (length (doors_of_all vs)) r
          ∙ ap (λ (n : ℕ). past n (length (doors_of v) + length (doors_of_all vs)) r) (sym (length-append (spelling r.next v) (spelling_of_all after vs)))
          ∙ ap (λ (n : ℕ). past (length (spelling r.next v ++ spelling_of_all after vs)) n r) (sym (length-append (doors_of v) (doors_of_all vs)));
    }

module _ (table : Table) where
  flag_found : (byte : ℕ) (v : Tree) (r after r' : Reading) → FoundByte byte r after → flag_at r.at byte after ≡ Ok (v, r') → IsFound (IsOf table OfBool) v r r'
  flag_found byte v r after r' found e = by_test (eqb byte 0) (eqb byte 1) refl refl e
    where
      by_test : (is_zero is_one : Bool) → eqb byte 0 ≡ is_zero → eqb byte 1 ≡ is_one → cond is_zero (read (AsBool false) after) (cond is_one (read (AsBool true) after) (bad r.at why.Bool)) ≡ read v r' → IsFound (IsOf table OfBool) v r r'
      by_test true b is other e =
          let same = read_is (AsBool false) v after r' e in
          subst (λ (w : Tree). IsFound (IsOf table OfBool) w r r') same.0 (subst (λ (s : Reading). IsFound (IsOf table OfBool) (AsBool false) r s) same.1
          (found_plain (IsOf table OfBool) (AsBool false) 1 r after tt refl refl (found.bytes ∙ ap (λ (b : ℕ). b ∷ rest_of after) (eqb-true byte 0 is)) found.place))
      by_test false true is other e =
          let same = read_is (AsBool true) v after r' e in
          subst (λ (w : Tree). IsFound (IsOf table OfBool) w r r') same.0 (subst (λ (s : Reading). IsFound (IsOf table OfBool) (AsBool true) r s) same.1
          (found_plain (IsOf table OfBool) (AsBool true) 1 r after tt refl refl (found.bytes ∙ ap (λ (b : ℕ). b ∷ rest_of after) (eqb-true byte 1 other)) found.place))
      by_test false false is other e = absurd cc

  bool_found : Finds (IsOf table OfBool) bool_at
  unfolding bool_at
  bool_found r r' v sound e =
      let step = bind_ok (part_from 1 r) (λ byte. flag_at r.at (get_or byte.0 0 0) byte.1) (v, r') e in
      flag_found (get_or step.0.0 0 0) v r step.0.1 r' (byte_found step.0.0 r step.0.1 sound step.1) step.2

  -- the rest of a reading step is the value itself
  found_at : (P : Tree → Type 0) (w v : Tree) (r after r' : Reading) → read w after ≡ read v r' → IsFound P w r after → IsFound P v r r'
  found_at P w v r after r' e found =
      let same = read_is w v after r' e in
      subst (λ (x : Tree). IsFound P x r r') same.0 (subst (λ (s : Reading). IsFound P w r s) same.1 found)

  u8_found : Finds (IsOf table OfU8) u8_at
  unfolding u8_at
  u8_found r r' v sound e =
      let step = bind_ok (part_from 1 r) (λ byte. read (AsU8 (get_or byte.0 0 0)) byte.1) (v, r') e in
      let byte = byte_found step.0.0 r step.0.1 sound step.1 in
      found_at (IsOf table OfU8) (AsU8 (get_or step.0.0 0 0)) v r step.0.1 r' step.2
      (found_plain (IsOf table OfU8) (AsU8 (get_or step.0.0 0 0)) 1 r step.0.1 byte.fits refl refl byte.bytes byte.place)

  u32_found : Finds (IsOf table OfU32) u32_at
  unfolding u32_at
  u32_found r r' v sound e =
      let step = bind_ok (number_from 4 r) (λ n. read (AsU32 n.0) n.1) (v, r') e in
      let n = number_found 4 wide_4 step.0.0 r step.0.1 sound step.1 in
      found_at (IsOf table OfU32) (AsU32 step.0.0) v r step.0.1 r' step.2
      (found_plain (IsOf table OfU32) (AsU32 step.0.0) 4 r step.0.1 (omega (arith, n.fits)) (length-number_bytes 4 step.0.0) refl n.bytes n.place)

  u64_found : Finds (IsOf table OfU64) u64_at
  unfolding u64_at
  u64_found r r' v sound e =
      let step = bind_ok (number_from 8 r) (λ n. read (AsU64 n.0) n.1) (v, r') e in
      let n = number_found 8 wide_8 step.0.0 r step.0.1 sound step.1 in
      found_at (IsOf table OfU64) (AsU64 step.0.0) v r step.0.1 r' step.2
      (found_plain (IsOf table OfU64) (AsU64 step.0.0) 8 r step.0.1 (omega (arith, n.fits)) (length-number_bytes 8 step.0.0) refl n.bytes n.place)

  -- the input stays
  sound_past : (n d : ℕ) (r r' : Reading) → r' ≡ past n d r → IsSound r → IsSound r'
  sound_past n d r r' e sound = subst (λ (s : Reading). IsSound s) (sym e) (record { bytes = sound.bytes; doors = sound.doors })

  record FoundCounted (part : List ℕ) (r r' : Reading) : Type 0 where
    bytes : rest_of r ≡ counted part ++ rest_of r'
    fits : length part < 2 ^ 32
    place : r' ≡ past (length (counted part)) 0 r

  counted_found : (part : List ℕ) (r r' : Reading) → IsSound r → counted_at r ≡ Ok (part, r') → FoundCounted part r r'
  unfolding counted_at
  counted_found part r r' sound e =
      let step = bind_ok (number_from 4 r) (λ n. part_from n.0 n.1) (part, r') e in
      let n = number_found 4 wide_4 step.0.0 r step.0.1 sound step.1 in
      let found = part_found step.0.0 part step.0.1 r' step.2 in
      let bytes : rest_of r ≡ (number_bytes 4 step.0.0 ++ part) ++ rest_of r' = n.bytes ∙ ap (λ (xs : List ℕ). number_bytes 4 step.0.0 ++ xs) found.bytes ∙ sym (append_assoc (number_bytes 4 step.0.0) part (rest_of r')) in
      let len : 4 + step.0.0 ≡ length (counted part) = omega (arith, found.len, length-number_bytes 4 (length part), length-append (number_bytes 4 (length part)) part) in
      record {
        bytes = bytes ∙ ap (λ (k : ℕ). (number_bytes 4 k ++ part) ++ rest_of r') (sym found.len);
        fits = omega (arith, n.fits, found.len);
        place = found.place ∙ ap (λ (s : Reading). past step.0.0 0 s) n.place ∙ past_past 4 0 step.0.0 0 r ∙ ap (λ (k : ℕ). past k 0 r) len;
      }

  bytes_found : Finds (IsOf table OfBytes) bytes_at
  unfolding bytes_at
  bytes_found r r' v sound e =
      let step = bind_ok (counted_at r) (λ part. read (AsBytes part.0) part.1) (v, r') e in
      let found = counted_found step.0.0 r step.0.1 sound step.1 in
      found_at (IsOf table OfBytes) (AsBytes step.0.0) v r step.0.1 r' step.2
      (found_plain (IsOf table OfBytes) (AsBytes step.0.0) (length (counted step.0.0)) r step.0.1 found.fits refl refl found.bytes found.place)

  guard_ok : {X : Type 0} (b : Bool) (x y : X) (d : BadValue) → cond b (Ok x) (Err d) ≡ Ok y → (b ≡ true) × (Ok x ≡ right y)
  guard_ok true x y d e = (refl, e)
  guard_ok false x y d e = absurd cc

  text_found : Finds (IsOf table OfString) text_at
  unfolding text_at
  text_found r r' v sound e =
      let step = bind_ok (counted_at r) (λ part. cond (is_utf8 part.0) (Ok (AsText part.0, part.1)) (bad r.at why.Utf8)) (v, r') e in
      let found = counted_found step.0.0 r step.0.1 sound step.1 in
      let passed = guard_ok (is_utf8 step.0.0) (AsText step.0.0, step.0.1) (v, r') (record { at = r.at; why = why.Utf8 }) step.2 in
      found_at (IsOf table OfString) (AsText step.0.0) v r step.0.1 r' passed.1
      (found_plain (IsOf table OfString) (AsText step.0.0) (length (counted step.0.0)) r step.0.1 (IsUtf8-from_is_utf8 step.0.0 passed.0, found.fits) refl refl found.bytes found.place)

  enum_found : (name : Word) (names : ℕ) → table name.text ≡ Some (Names names) → Finds (IsOf table (OfName name)) (enum_at names)
  unfolding enum_at
  enum_found name names is r r' v sound e =
      let step = bind_ok (number_from 4 r) (λ n. cond (ltb n.0 names) (Ok (AsEnum n.0, n.1)) (bad r.at why.Enum)) (v, r') e in
      let n = number_found 4 wide_4 step.0.0 r step.0.1 sound step.1 in
      let passed = guard_ok (ltb step.0.0 names) (AsEnum step.0.0, step.0.1) (v, r') (record { at = r.at; why = why.Enum }) step.2 in
      found_at (IsOf table (OfName name)) (AsEnum step.0.0) v r step.0.1 r' passed.1
      (found_plain (IsOf table (OfName name)) (AsEnum step.0.0) 4 r step.0.1 (names, is, ltb-true step.0.0 names passed.0, omega (arith, n.fits)) (length-number_bytes 4 step.0.0) refl n.bytes n.place)

  reference_from : (name : Word) → table name.text ≡ Some Object → (x : ℕ) (r after r' : Reading) (v : Tree) (d : Result Door BadDoor) → FoundNumber 4 x r after → number_of 4 (rest_of r) ≡ x → door_at r ≡ d → or_index r d ≡ read v r' → IsFound (IsOf table (OfName name)) v r r'
  reference_from name is x r after r' v (Err d) found index same e = absurd cc
  reference_from name is x r after r' v (Ok door) found index same e =
      let first = door_found r door same in
      let after_is : past 4 0 r ≡ after = sym found.place in
      let bytes : rest_of r ≡ number_bytes 4 r.next ++ rest_of (past 4 1 r) =
      found.bytes ∙ ap (λ (k : ℕ). number_bytes 4 k ++ rest_of after) (sym index ∙ first.0) ∙ ap (λ (s : Reading). number_bytes 4 r.next ++ rest_of s) (sym after_is) in
      let len = length-number_bytes 4 r.next in
      found_at (IsOf table (OfName name)) (AsReference door) v r (past 4 1 r) r' e (record {
        of = is;
        next = record { bytes = bytes; doors = left_from r.doors r.next door first.1 };
        place = ap (λ (k : ℕ). past k 1 r) (sym len);
      })

  reference_found : (name : Word) → table name.text ≡ Some Object → Finds (IsOf table (OfName name)) reference_at
  unfolding reference_at
  reference_found name is r r' v sound e =
      let step = bind_ok (number_from 4 r) (λ n. or_index r (door_at r)) (v, r') e in
      reference_from name is step.0.0 r step.0.1 r' v (door_at r) (number_found 4 wide_4 step.0.0 r step.0.1 sound step.1) (number_is 4 step.0.0 r step.0.1 step.1) refl step.2

  -- ---- several values

  values_found : (ty : TypeTree) (read : Reading → Reads Tree) → Finds (IsOf table ty) read → (n : ℕ) (r r' : Reading) (vs : Trees) → IsSound r → values_at read n r ≡ Ok (vs, r') → AreFound (λ vs. AreOfOne table ty vs × (count vs ≡ n)) vs r r'
  unfolding values_at
  values_found ty read finds zero r r' vs sound e =
      let same = reads_are none vs r r' e in
      all_found_at _ none vs r r r' same (no_values _ r (tt, refl))
  values_found ty read finds (suc n) r r' vs sound e =
      let first = bind_ok (read r) (λ v. values_at read n v.1 >>= λ vs. Ok (one v.0 vs.0, vs.1)) (vs, r') e in
      let found = finds r first.0.1 first.0.0 sound first.1 in
      let others = bind_ok (values_at read n first.0.1) (λ vs. Ok (one first.0.0 vs.0, vs.1)) (vs, r') first.2 in
      let sound_after = sound_past _ _ r first.0.1 found.place sound in
      let found_others = values_found ty read finds n first.0.1 others.0.1 others.0.0 sound_after others.1 in
      let same = reads_are (one first.0.0 others.0.0) vs others.0.1 r' others.2 in
      all_found_at _ (one first.0.0 others.0.0) vs r others.0.1 r' same
      (one_found (IsOf table ty) _ _ first.0.0 others.0.0 r first.0.1 others.0.1 found found_others ((found.of, found_others.of.0), ap suc found_others.of.1))

  fields_found : (read : TypeTree → Reading → Reads Tree) → ((ty : TypeTree) → Finds (IsOf table ty) (read ty)) → (tys : List TypeTree) (r r' : Reading) (vs : Trees) → IsSound r → fields_at read tys r ≡ Ok (vs, r') → AreFound (AreOf table tys) vs r r'
  unfolding fields_at
  fields_found read finds [] r r' vs sound e =
      let same = reads_are none vs r r' e in
      all_found_at _ none vs r r r' same (no_values _ r tt)
  fields_found read finds (ty ∷ tys) r r' vs sound e =
      let first = bind_ok (read ty r) (λ v. fields_at read tys v.1 >>= λ vs. Ok (one v.0 vs.0, vs.1)) (vs, r') e in
      let found = finds ty r first.0.1 first.0.0 sound first.1 in
      let others = bind_ok (fields_at read tys first.0.1) (λ vs. Ok (one first.0.0 vs.0, vs.1)) (vs, r') first.2 in
      let sound_after = sound_past _ _ r first.0.1 found.place sound in
      let found_others = fields_found read finds tys first.0.1 others.0.1 others.0.0 sound_after others.1 in
      let same = reads_are (one first.0.0 others.0.0) vs others.0.1 r' others.2 in
      all_found_at _ (one first.0.0 others.0.0) vs r others.0.1 r' same
      (one_found (IsOf table ty) _ _ first.0.0 others.0.0 r first.0.1 others.0.1 found found_others (found.of, found_others.of))

  counted_values : (of : TypeTree) (x : ℕ) (vs : Trees) (r after r' : Reading) → FoundNumber 4 x r after → AreFound (λ vs. AreOfOne table of vs × (count vs ≡ x)) vs after r' → IsFound (IsOf table (SequenceOf of)) (AsSequence vs) r r'
  counted_values of x vs r after r' n found =
      let next : after.next ≡ r.next = ap (λ (x : Reading). x.next) n.place ∙ add-zero r.next in
      let same_doors : after.doors ≡ r.doors = ap (λ (x : Reading). x.doors) n.place in
      let many = found.of.1 in
      let len = length-number_bytes 4 (count vs) in
      record {
        of = (omega (arith, n.fits, many), found.of.0);
        next = record {
          bytes = n.bytes ∙ ap (λ (xs : List ℕ). number_bytes 4 x ++ xs) (found.bytes ∙ ap (λ (k : ℕ). spelling_of_all k vs ++ rest_of r') next)
              ∙ sym (append_assoc (number_bytes 4 x) (spelling_of_all r.next vs) (rest_of r'))
              ∙ ap (λ (k : ℕ). (number_bytes 4 k ++ spelling_of_all r.next vs) ++ rest_of r') (sym many);
          doors = ap (λ (k : ℕ). drop k r.doors) (sym next) ∙ ap (λ (ds : List Door). drop after.next ds) (sym same_doors) ∙ found.doors ∙ ap (λ (ds : List Door). doors_of_all vs ++ drop r'.next ds) same_doors;
        };
        place = found.place ∙ ap (λ (k : ℕ). past (length (spelling_of_all k vs)) (length (doors_of_all vs)) after) next
            ∙ ap (λ (s : Reading). past (length (spelling_of_all r.next vs)) (length (doors_of_all vs)) s) n.place
            ∙ past_past 4 0 (length (spelling_of_all r.next vs)) (length (doors_of_all vs)) r
            ∙ ap (λ (k : ℕ). past k (0 + length (doors_of_all vs)) r) (omega (arith, len, length-append (number_bytes 4 (count vs)) (spelling_of_all r.next vs)))
            ∙ ap (λ (k : ℕ). past (length (spelling r.next (AsSequence vs))) k r) (omega arith);
      }

  sequence_found : (of : TypeTree) (read : Reading → Reads Tree) → Finds (IsOf table of) read → Finds (IsOf table (SequenceOf of)) (sequence_at read)
  unfolding sequence_at
  sequence_found of read finds r r' v sound e =
      let step = bind_ok (number_from 4 r) (λ n. values_at read n.0 n.1 >>= λ vs. Ok (AsSequence vs.0, vs.1)) (v, r') e in
      let n = number_found 4 wide_4 step.0.0 r step.0.1 sound step.1 in
      let rest = bind_ok (values_at read step.0.0 step.0.1) (λ vs. Ok (AsSequence vs.0, vs.1)) (v, r') step.2 in
      let sound_after = sound_past 4 0 r step.0.1 n.place sound in
      let found = values_found of read finds step.0.0 step.0.1 rest.0.1 rest.0.0 sound_after rest.1 in
      found_at (IsOf table (SequenceOf of)) (AsSequence rest.0.0) v r rest.0.1 r' rest.2
      (counted_values of step.0.0 rest.0.0 r step.0.1 rest.0.1 n found)

  -- ---- types

  type_found : (read : List ℕ → Reading → Reads Tree) → ((name : Word) → Finds (IsOf table (OfName name)) (read name.text)) → (ty : TypeTree) → Finds (IsOf table ty) (type_at read ty)
  unfolding type_at
  type_found read finds OfBool = bool_found
  type_found read finds OfU8 = u8_found
  type_found read finds OfU32 = u32_found
  type_found read finds OfU64 = u64_found
  type_found read finds OfString = text_found
  type_found read finds OfBytes = bytes_found
  type_found read finds (SequenceOf of) = sequence_found of (type_at read of) (type_found read finds of)
  type_found read finds (OfName name) = finds name

  struct_found : (name : Word) (tys : List TypeTree) → table name.text ≡ Some (Fields tys) → (vs : Trees) (r r' : Reading) → AreFound (AreOf table tys) vs r r' → IsFound (IsOf table (OfName name)) (AsStruct vs) r r'
  struct_found name tys is vs r r' found = record {
    of = (tys, is, found.of);
    next = record { bytes = found.bytes; doors = found.doors };
    place = found.place;
  }

  kind_found : (read : TypeTree → Reading → Reads Tree) → ((ty : TypeTree) → Finds (IsOf table ty) (read ty)) → (name : Word) (kind : Option Kind) → table name.text ≡ kind → Finds (IsOf table (OfName name)) (kind_at read kind)
  kind_found read finds name None is r r' v sound e = absurd cc
  kind_found read finds name (Some (Fields tys)) is r r' v sound e =
      let step = bind_ok (fields_at read tys r) (λ vs. Ok (AsStruct vs.0, vs.1)) (v, r') e in
      found_at (IsOf table (OfName name)) (AsStruct step.0.0) v r step.0.1 r' step.2
      (struct_found name tys is step.0.0 r step.0.1 (fields_found read finds tys r step.0.1 step.0.0 sound step.1))
  kind_found read finds name (Some (Names names)) is r r' v sound e = enum_found name names is r r' v sound e
  kind_found read finds name (Some Object) is r r' v sound e = reference_found name is r r' v sound e

  named_found : (depth : ℕ) (name : Word) → Finds (IsOf table (OfName name)) (named_at table depth name.text)
  unfolding named_at
  named_found zero name r r' v sound e = absurd cc
  named_found (suc depth) name r r' v sound e =
      kind_found (type_at (named_at table depth)) (type_found (named_at table depth) (named_found depth)) name (table name.text) refl r r' v sound e

  -- what is read is of the type, and comes next
  pub value_found : (depth : ℕ) (ty : TypeTree) → Finds (IsOf table ty) (type_at (named_at table depth) ty)
  value_found depth ty = type_found (named_at table depth) (named_found depth) ty
