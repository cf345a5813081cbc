-- The tables of declarations that fit together follow the bases.
use Rattle.std.proofs.Common.{◌≡◌, ℕ, zero, suc, ◌+◌, ◌<◌, List, [], ◌∷◌, ◌++◌, length, map, Bool, true, false, ◌&&◌, ◌||◌, cond, get_or, Some, None, ◌⊎◌, inl, inr, refl, sym, ap, subst, ◌∙◌, add-one, add-zero, arith}
use Rattle.std.specs.Prelude.{slice_get, unwrap_or}
use Rattle.std.specs.List.{AllByRecursion, flat_map}
use Rattle.std.specs.Str.{bytes_eq}
use Rattle.std.proofs.lemmas.Bool.{or_cases, and_parts}
use Rattle.std.proofs.Math.Bool.{and-false}
use Rattle.std.proofs.lemmas.List.{length-map, get_or-map, append-nil, ext_get_or}
use Rattle.std.proofs.lemmas.Grind.{flat_map-append}
use Rattle.std.proofs.lemmas.Option.{slice_get_within, get_or_from_slice_get, slice_get-get_or}
use Rattle.std.proofs.lemmas.Slice.Eq.{bytes_eq-Decides}
use Rattle.idl_reader.specs.declared.idl.Word.{Word}
use Rattle.idl_reader.specs.Tree.{DeclTree, EnumOf}
use Rattle.idl_check.specs.Names.{decl_name, is_interface, has_name, bases_of}
use Rattle.idl_check.specs.Reach.{ranks_of}
use Rattle.idl_check.specs.Verdict.{repeat_in, first_failing, declares_interface}
use Rattle.idl_check.specs.FitsTogether.{Refers, Directly}
use Rattle.idl_check.proofs.NameTests.{named}
use Rattle.idl_check.proofs.Apart.{names_apart, bases_pass}
use Rattle.idl_check.proofs.Ranks.{rank_falls, rank_below}
use Rattle.idl_check.proofs.Clashing.{made_of_inherited}
use Rattle.idl_check.proofs.Exactly.{AreSettled, acyclic_of}
use Rattle.idl_tables.specs.Lines.{spot, base_spots, all_spots, merged, joined_line, lines_of}
use Rattle.idl_tables.specs.Tables.{Operation, own_of, own_at, line_table, tables_of, table_named}
use Rattle.idl_tables.specs.Rule.{table_of, inherited, each_once, FollowBases}
use Rattle.idl_tables.proofs.Stable.{Falls, line_is, length-lines_to, each_same}
use Rattle.idl_tables.proofs.Operations.{merged_operations}

-- a declaration stands at a place, and has this name
pub record Stands (ds : List DeclTree) (i : ℕ) (name : List ℕ) : Type 0 where
  pub decl : DeclTree
  pub there : slice_get ds i ≡ Some decl
  pub named : (decl_name decl).text ≡ name

abbrev stands_later : (d : DeclTree) (ds : List DeclTree) (i : ℕ) (name : List ℕ) → Stands ds i name → Stands (d ∷ ds) (i + 1) name
stands_later d ds i name s = record { decl = s.decl; there = ap (λ n. slice_get (d ∷ ds) n) (add-one i) ∙ s.there; named = s.named }

-- a declaration of the name stands at its spot
pub spot_stands : (ds : List DeclTree) (name : List ℕ) → spot ds name < length ds → Stands ds (spot ds name) name
spot_stands [] name below = absurd (omega arith)
spot_stands (d ∷ ds) name below = cases (bytes_eq (decl_name d).text name) refl below (spot_stands ds name) where
  cases : (b : Bool) → bytes_eq (decl_name d).text name ≡ b → cond b 0 (spot ds name + 1) < suc (length ds) → (spot ds name < length ds → Stands ds (spot ds name) name) → Stands (d ∷ ds) (cond b 0 (spot ds name + 1)) name
  cases true e low later = record { decl = d; there = refl; named = (bytes_eq-Decides (decl_name d).text name).0 e }
  cases false e low later = stands_later d ds (spot ds name) name (later (omega arith))

abbrev rank : List DeclTree → ℕ → ℕ
rank decls i = get_or (ranks_of decls) i 0

-- each of some words, which are among the bases, has a smaller number
each_falls : (decls : List DeclTree) (i : ℕ) (d : DeclTree) → AreSettled decls → slice_get decls i ≡ Some d → (words : List Word) → ((name : List ℕ) → has_name name words ≡ true → has_name name (bases_of d) ≡ true)
    → AllByRecursion (λ b. b < length decls → rank decls b < rank decls i) (map (λ base. spot decls base.text) words)
each_falls decls i d fit here [] among = tt
each_falls decls i d fit here (w ∷ words) among = (
  (λ below.
      let s = spot_stands decls w.text below in
      let is : has_name (decl_name s.decl).text (w ∷ words) ≡ true = ap (λ t. t || has_name (decl_name s.decl).text words) ((bytes_eq-Decides w.text (decl_name s.decl).text).1 (sym s.named)) in
      let refers : Refers bases_of decls i (spot decls w.text) = record { from = d; from_at = here; to = s.decl; to_at = s.there; named = named (decl_name s.decl).text (bases_of d) (among (decl_name s.decl).text is) } in
      rank_falls decls (acyclic_of decls fit) i (spot decls w.text) (made_of_inherited decls i (spot decls w.text) (Directly i (spot decls w.text) refers))),
  each_falls decls i d fit here words (λ name h. among name (or_second (bytes_eq w.text name) (has_name name words) h)),
) where
  or_second : (a b : Bool) → b ≡ true → (a || b) ≡ true
  or_second true b e = refl
  or_second false b e = e

spots_at : (decls : List DeclTree) (i : ℕ) (d : DeclTree) → slice_get decls i ≡ Some d → get_or (all_spots decls) i [] ≡ base_spots decls d
spots_at decls i d here = get_or-map (λ d. base_spots decls d) decls i d [] (slice_get_within decls i d here) ∙ ap (λ x. base_spots decls x) (get_or_from_slice_get decls i d d here)

abbrev nobody : DeclTree
nobody = EnumOf (record { text = []; place = 0 }) []

falls : (decls : List DeclTree) → AreSettled decls → Falls (rank decls) (all_spots decls)
unfolding base_spots
falls decls fit = record {
  falls = λ i below.
      let n : length (all_spots decls) ≡ length decls = length-map decls (λ d. base_spots decls d) in
      let d = get_or decls i nobody in
      let here = slice_get-get_or decls i nobody (omega arith) in
      subst (λ (m : ℕ). AllByRecursion (λ b. b < m → rank decls b < rank decls i) (get_or (all_spots decls) i [])) (sym n)
      (subst (λ (l : List ℕ). AllByRecursion (λ b. b < length decls → rank decls b < rank decls i) l) (sym (spots_at decls i d here))
      (each_falls decls i d fit here (bases_of d) (λ name h. h)));
}

-- the line of each declaration is those of its bases, each declaration once, and then itself
pub line_follows : (decls : List DeclTree) → AreSettled decls → (i : ℕ) (d : DeclTree) → slice_get decls i ≡ Some d → get_or (lines_of decls) i [] ≡ merged (lines_of decls) [] (base_spots decls d) ++ i ∷ []
unfolding joined_line
line_follows decls fit i d here =
    let n : length (all_spots decls) ≡ length decls = length-map decls (λ d. base_spots decls d) in
    let below = slice_get_within decls i d here in
    let low = rank_below decls (acyclic_of decls fit) i below in
    line_is (rank decls) (all_spots decls) (falls decls fit) (length decls) i (omega arith) low
    ∙ ap (λ l. merged (lines_of decls) [] l ++ i ∷ []) (spots_at decls i d here)

-- an interface stands at a place, and has this name
record Found (ds : List DeclTree) (i : ℕ) (name : List ℕ) : Type 0 where
  stands : Stands ds i name
  face : is_interface stands.decl ≡ true

found_later : (d : DeclTree) (ds : List DeclTree) (name : List ℕ) → (i : ℕ) × Found ds i name → (i : ℕ) × Found (d ∷ ds) i name
found_later d ds name (i, f) = (i + 1, record { stands = stands_later d ds i name f.stands; face = f.face })

interface_found : (ds : List DeclTree) (word : Word) → declares_interface ds word ≡ true → (i : ℕ) × Found ds i word.text
interface_found [] word h = absurd cc
interface_found (d ∷ ds) word h = cases (or_cases (is_interface d && bytes_eq (decl_name d).text word.text) (declares_interface ds word) h) (interface_found ds word) where
  cases : ((is_interface d && bytes_eq (decl_name d).text word.text) ≡ true) ⊎ (declares_interface ds word ≡ true) → (declares_interface ds word ≡ true → (i : ℕ) × Found ds i word.text) → (i : ℕ) × Found (d ∷ ds) i word.text
  cases (inl is) later =
      let both = and_parts (is_interface d) (bytes_eq (decl_name d).text word.text) is in
      (0, record { stands = record { decl = d; there = refl; named = (bytes_eq-Decides (decl_name d).text word.text).0 both.1 }; face = both.0 })
  cases (inr is) later = found_later d ds word.text (later is)

pub spot_within : (ds : List DeclTree) (name : List ℕ) (i : ℕ) → Stands ds i name → spot ds name < length ds
spot_within [] name i s = let at = s.there in absurd cc
spot_within (d ∷ ds) name zero s =
    let at = s.there in
    let same : s.decl ≡ d = cc in
    let is = (bytes_eq-Decides (decl_name d).text name).1 (ap (λ (x : DeclTree). (decl_name x).text) (sym same) ∙ s.named) in
    let none : spot (d ∷ ds) name ≡ 0 = ap (λ b. cond b 0 (spot ds name + 1)) is in
    omega arith
spot_within (d ∷ ds) name (suc i) s = cases (bytes_eq (decl_name d).text name) (spot_within ds name i (record { decl = s.decl; there = s.there; named = s.named })) where
  cases : (b : Bool) → spot ds name < length ds → cond b 0 (spot ds name + 1) < suc (length ds)
  cases true low = omega arith
  cases false low = omega arith

pub table_found : (tables : List (List Operation)) (k : ℕ) (ds : List DeclTree) (name : List ℕ) (d : DeclTree) → slice_get ds (spot ds name) ≡ Some d → is_interface d ≡ true → table_named tables k ds name ≡ Some (get_or tables (k + spot ds name) [])
table_found tables k [] name d there face = absurd cc
table_found tables k (x ∷ ds) name d there face = cases (bytes_eq (decl_name x).text name) there (λ h. table_found tables (k + 1) ds name d h face) where
  cases : (b : Bool) → slice_get (x ∷ ds) (cond b 0 (spot ds name + 1)) ≡ Some d → (slice_get ds (spot ds name) ≡ Some d → table_named tables (k + 1) ds name ≡ Some (get_or tables (k + 1 + spot ds name) []))
      → cond (is_interface x && b) (Some (get_or tables k [])) (table_named tables (k + 1) ds name) ≡ Some (get_or tables (k + cond b 0 (spot ds name + 1)) [])
  cases true h later =
      let same : x ≡ d = cc in
      let is : is_interface x ≡ true = ap (λ (y : DeclTree). is_interface y) same ∙ face in
      ap (λ b. cond (b && true) (Some (get_or tables k [])) (table_named tables (k + 1) ds name)) is ∙ ap (λ n. Some (get_or tables n [])) (sym (add-zero k))
  cases false h later =
      let place : k + 1 + spot ds name ≡ k + (spot ds name + 1) = omega arith in
      ap (λ b. cond b (Some (get_or tables k [])) (table_named tables (k + 1) ds name)) (and-false (is_interface x))
      ∙ later (sym (ap (λ n. slice_get (x ∷ ds) n) (add-one (spot ds name))) ∙ h)
      ∙ ap (λ n. Some (get_or tables n [])) place

-- the table of a name that an interface has is that at its spot
named_at_spot : (decls : List DeclTree) → repeat_in [] decls ≡ None → (tables : List (List Operation)) (word : Word) → declares_interface decls word ≡ true → table_of decls tables word.text ≡ get_or tables (spot decls word.text) []
named_at_spot decls none tables word h =
    let found = interface_found decls word h in
    let other = spot_stands decls word.text (spot_within decls word.text found.0 found.1.stands) in
    let place : found.0 ≡ spot decls word.text = names_apart [] decls none found.0 (spot decls word.text) found.1.stands.decl other.decl found.1.stands.there other.there (found.1.stands.named ∙ sym other.named) in
    let there : slice_get decls (spot decls word.text) ≡ Some found.1.stands.decl = ap (λ n. slice_get decls n) (sym place) ∙ found.1.stands.there in
    let none_before : 0 + spot decls word.text ≡ spot decls word.text = omega arith in
    ap (λ o. unwrap_or o []) (table_found tables 0 decls word.text found.1.stands.decl there found.1.face) ∙ ap (λ n. get_or tables n []) none_before

pub table_at : (decls : List DeclTree) (lines : List (List ℕ)) (i : ℕ) → get_or (map (λ line. line_table decls line) lines) i [] ≡ line_table decls (get_or lines i [])
unfolding line_table
table_at decls [] i = refl
table_at decls (line ∷ lines) zero = refl
table_at decls (line ∷ lines) (suc i) = table_at decls lines i

-- the tables of the bases, by their spots and by their names
by_name : (decls : List DeclTree) → repeat_in [] decls ≡ None → (words : List Word) → first_failing (λ word. declares_interface decls word) words ≡ None
    → flat_map (λ b. line_table decls (get_or (lines_of decls) b [])) (map (λ base. spot decls base.text) words) ≡ flat_map (λ base. table_of decls (tables_of decls) base.text) words
by_name decls none [] h = refl
by_name decls none (w ∷ words) h = cases (declares_interface decls w) refl h (by_name decls none words) where
  cases : (b : Bool) → declares_interface decls w ≡ b → cond b (first_failing (λ word. declares_interface decls word) words) (Some w.place) ≡ None
      → (first_failing (λ word. declares_interface decls word) words ≡ None → flat_map (λ b. line_table decls (get_or (lines_of decls) b [])) (map (λ base. spot decls base.text) words) ≡ flat_map (λ base. table_of decls (tables_of decls) base.text) words)
      → line_table decls (get_or (lines_of decls) (spot decls w.text) []) ++ flat_map (λ b. line_table decls (get_or (lines_of decls) b [])) (map (λ base. spot decls base.text) words) ≡ table_of decls (tables_of decls) w.text ++ flat_map (λ base. table_of decls (tables_of decls) base.text) words
  cases false e h' later = absurd cc
  cases true e h' later =
      let one : line_table decls (get_or (lines_of decls) (spot decls w.text) []) ≡ table_of decls (tables_of decls) w.text = sym (named_at_spot decls none (tables_of decls) w e ∙ table_at decls (lines_of decls) (spot decls w.text)) in
      ap (λ l. l ++ flat_map (λ b. line_table decls (get_or (lines_of decls) b [])) (map (λ base. spot decls base.text) words)) one
      ∙ ap (λ l. table_of decls (tables_of decls) w.text ++ l) (later h')

line_and_own : (decls : List DeclTree) (line : List ℕ) (i : ℕ) (d : DeclTree) → slice_get decls i ≡ Some d → line_table decls (line ++ i ∷ []) ≡ line_table decls line ++ own_of d
unfolding line_table
line_and_own decls line i d here =
    flat_map-append (λ k. own_at (slice_get decls k)) line (i ∷ [])
    ∙ ap (λ l. line_table decls line ++ l) (append-nil (own_at (slice_get decls i)) ∙ ap (λ o. own_at o) here)

inherited_is : (decls : List DeclTree) → AreSettled decls → (i : ℕ) (d : DeclTree) → slice_get decls i ≡ Some d → line_table decls (merged (lines_of decls) [] (base_spots decls d)) ≡ inherited decls (tables_of decls) d
unfolding base_spots
inherited_is decls fit i d here =
    let none = fit.different in
    merged_operations decls none (lines_of decls) (base_spots decls d)
    ∙ ap (λ l. each_once [] l) (by_name decls none (bases_of d) (bases_pass (λ word. declares_interface decls word) decls fit.faces i d here))

pub tables_follow : (decls : List DeclTree) → AreSettled decls → FollowBases decls (tables_of decls)
tables_follow decls fit =
    let tall : length (lines_of decls) ≡ length decls = length-lines_to (length decls) (all_spots decls) ∙ length-map decls (λ d. base_spots decls d) in
    let tables_tall : length (tables_of decls) ≡ length decls = length-map (lines_of decls) (λ line. line_table decls line) ∙ tall in
    record {
      all = tables_tall;
      each = λ i d here.
          let below = slice_get_within decls i d here in
          slice_get-get_or (tables_of decls) i [] (omega arith)
          ∙ ap (λ t. Some t) (table_at decls (lines_of decls) i
          ∙ ap (λ l. line_table decls l) (line_follows decls fit i d here)
          ∙ line_and_own decls (merged (lines_of decls) [] (base_spots decls d)) i d here
          ∙ ap (λ t. t ++ own_of d) (inherited_is decls fit i d here));
    }

-- the operations of the bases are the same where the tables at their spots are
bases_same : (decls : List DeclTree) → repeat_in [] decls ≡ None → (one other : List (List Operation)) (words : List Word) → first_failing (λ word. declares_interface decls word) words ≡ None
    → AllByRecursion (λ b. get_or one b [] ≡ get_or other b []) (map (λ base. spot decls base.text) words)
    → flat_map (λ base. table_of decls one base.text) words ≡ flat_map (λ base. table_of decls other base.text) words
bases_same decls none one other [] h same = refl
bases_same decls none one other (w ∷ words) h same = cases (declares_interface decls w) refl h (λ rest. bases_same decls none one other words rest same.1) where
  cases : (b : Bool) → declares_interface decls w ≡ b → cond b (first_failing (λ word. declares_interface decls word) words) (Some w.place) ≡ None
      → (first_failing (λ word. declares_interface decls word) words ≡ None → flat_map (λ base. table_of decls one base.text) words ≡ flat_map (λ base. table_of decls other base.text) words)
      → table_of decls one w.text ++ flat_map (λ base. table_of decls one base.text) words ≡ table_of decls other w.text ++ flat_map (λ base. table_of decls other base.text) words
  cases false e h' later = absurd cc
  cases true e h' later =
      let first : table_of decls one w.text ≡ table_of decls other w.text = named_at_spot decls none one w e ∙ same.0 ∙ sym (named_at_spot decls none other w e) in
      ap (λ l. l ++ flat_map (λ base. table_of decls one base.text) words) first ∙ ap (λ l. table_of decls other w.text ++ l) (later h')

same_below : (decls : List DeclTree) → AreSettled decls → (one other : List (List Operation)) → FollowBases decls one → FollowBases decls other → (m i : ℕ) → i < length decls → rank decls i < m → get_or one i [] ≡ get_or other i []
same_below decls fit one other p q zero i below low = absurd (omega arith)
same_below decls fit one other p q (suc m) i below low =
    let d = get_or decls i nobody in
    let here = slice_get-get_or decls i nobody below in
    let spots : List ℕ = map (λ base. spot decls base.text) (bases_of d) in
    let same = each_same one other (length decls) (rank decls i) (rank decls) spots p.all q.all (λ x within lower. same_below decls fit one other p q m x within (omega arith)) (each_falls decls i d fit here (bases_of d) (λ name h. h)) in
    let bases = bases_same decls fit.different one other (bases_of d) (bases_pass (λ word. declares_interface decls word) decls fit.faces i d here) same in
    get_or_from_slice_get one i (inherited decls one d ++ own_of d) [] (p.each i d here)
    ∙ ap (λ l. each_once [] l ++ own_of d) bases
    ∙ sym (get_or_from_slice_get other i (inherited decls other d ++ own_of d) [] (q.each i d here))

-- so there are no two
pub one_rule : (decls : List DeclTree) → AreSettled decls → (one other : List (List Operation)) → FollowBases decls one → FollowBases decls other → one ≡ other
one_rule decls fit one other p q =
    let long = p.all in
    ext_get_or [] one other (p.all ∙ sym q.all) (λ i below. same_below decls fit one other p q (length decls) i (omega arith) (rank_below decls (acyclic_of decls fit) i (omega arith)))
