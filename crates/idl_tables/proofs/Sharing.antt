-- Operations of one name in a table, and in an interface.
use Rattle.std.proofs.Common.{◌≡◌, ◌≢◌, ℕ, suc, ◌==◌, List, [], ◌∷◌, ◌++◌, map, true, false, get_or, Option, Some, None, refl, sym, ap, subst, ◌∙◌, arith}
use Rattle.std.specs.Prelude.{slice_get, All, Any}
use Rattle.std.proofs.lemmas.Bool.{both_ways, or_left, or_right, eqb-true, eq-eqb}
use Rattle.std.proofs.lemmas.List.{length-map, get_or-map}
use Rattle.std.proofs.lemmas.List.Elements.{All-append}
use Rattle.std.proofs.lemmas.List.Kept.{AllPairs-cons}
use Rattle.std.proofs.lemmas.List.Folds.{Any-from_list_any, list_any-from_Any}
use Rattle.std.proofs.lemmas.Option.{slice_get_within, get_or_from_slice_get, slice_get-get_or}
use Rattle.idl_reader.specs.declared.idl.Word.{Word}
use Rattle.idl_reader.specs.Tree.{DeclTree, EnumOf}
use Rattle.idl_check.specs.declared.why.UnfitWhy.TheVariants.{Clash}
use Rattle.idl_check.specs.Names.{decl_name, op_names}
use Rattle.idl_check.specs.Verdict.{repeat_among}
use Rattle.idl_check.specs.FitsTogether.{HasName, HasOperation, HasClash, FitsTogether, Holds, NoneBefore}
use Rattle.idl_check.proofs.Lists.{none_of_nil, any_here, any_later, any_at, at_any, any_weaker, any_map, map_any, any_flat_map, flat_map_any, all_unless}
use Rattle.idl_check.proofs.Apart.{names_apart, ops_apart}
use Rattle.idl_check.proofs.Repeated.{among_none, different_unless}
use Rattle.idl_check.proofs.Exactly.{AreSettled, settled_of_fits, settled_before}
use Rattle.idl_tables.specs.Lines.{has_spot, lines_of}
use Rattle.idl_tables.specs.Tables.{Operation, own_of, own_at, line_table, tables_of}
use Rattle.idl_tables.specs.Rule.{FollowBases}
use Rattle.idl_tables.specs.Differ.{HaveOwnNames, ShareName, SharesAt}
use Rattle.idl_tables.proofs.Has.{Distinct, InLine, has_of_line, line_of_has, line_distinct}
use Rattle.idl_tables.proofs.Rule.{table_at, tables_follow, one_rule}

-- ---- the operations of a line

abbrev pub op_of : DeclTree → Word → Operation
op_of d word = record { name = word.text; declarer = (decl_name d).text }

spot_there : (line : List ℕ) (n k : ℕ) → slice_get line n ≡ Some k → has_spot k line ≡ true
spot_there line n k at = list_any-from_Any (λ spot. spot == k) line (any_at (λ spot. (spot == k) ≡ true) line n k at (eq-eqb k k refl))

there_spot : (line : List ℕ) (k : ℕ) → has_spot k line ≡ true → (n : ℕ) × (slice_get line n ≡ Some k)
there_spot line k h =
    let found = at_any (λ spot. (spot == k) ≡ true) line (Any-from_list_any (λ spot. spot == k) line h) in
    (found.0, found.2 ∙ ap (λ j. Some j) (eqb-true found.1 k found.3))

-- an operation of the k-th declaration, which P holds of
record Declares (P : Operation → Type 0) (decls : List DeclTree) (k : ℕ) : Type 0 where
  decl : DeclTree
  decl_at : slice_get decls k ≡ Some decl
  op : Any (λ word. P (op_of decl word)) (op_names decl)

module _ (P : Operation → Type 0) (decls : List DeclTree) where
  of_own : (k : ℕ) → Any P (own_at (slice_get decls k)) → Declares P decls k
  unfolding own_of
  of_own k a = cases (slice_get decls k) refl a where
    cases : (o : Option DeclTree) → slice_get decls k ≡ o → Any P (own_at o) → Declares P decls k
    cases None is h = absurd (none_of_nil P h)
    cases (Some d) is h = record { decl = d; decl_at = is; op = map_any P (λ word. op_of d word) (op_names d) h }

  own_of_declared : (k : ℕ) → Declares P decls k → Any P (own_at (slice_get decls k))
  unfolding own_of
  own_of_declared k d = subst (λ (o : Option DeclTree). Any P (own_at o)) (sym d.decl_at) (any_map P (λ word. op_of d.decl word) (op_names d.decl) d.op)

  -- one of the line declares it
  of_line : (line : List ℕ) → Any P (line_table decls line) → (k : ℕ) × (has_spot k line ≡ true) × Declares P decls k
  unfolding line_table
  of_line line a =
      let found = at_any (λ k. Any P (own_at (slice_get decls k))) line (flat_map_any P (λ k. own_at (slice_get decls k)) line a) in
      (found.1, spot_there line found.0 found.1 found.2, of_own found.1 found.3)

  line_of_declared : (line : List ℕ) (k : ℕ) → has_spot k line ≡ true → Declares P decls k → Any P (line_table decls line)
  unfolding line_table
  line_of_declared line k h d =
      let at = there_spot line k h in
      any_flat_map P (λ k. own_at (slice_get decls k)) line (any_at (λ k. Any P (own_at (slice_get decls k))) line at.0 k at.1 (own_of_declared k d))

-- ---- a table where two operations share a name

module _ (decls : List DeclTree) (settled : AreSettled decls) where
  abbrev lines : List (List ℕ)
  lines = lines_of decls

  -- the operations of the line of the i-th
  abbrev table : ℕ → List Operation
  table i = line_table decls (get_or lines i [])

  has_operation : (i k : ℕ) (d : DeclTree) (name : List ℕ) → slice_get decls i ≡ Some d → InLine lines k i → (e : DeclTree) → slice_get decls k ≡ Some e → HasName name (op_names e) → HasOperation decls i k name
  has_operation i k d name here h e there declares = record { from = has_of_line decls settled i k d here h; declarer = e; declarer_at = there; declares = declares }

  clash_of_two : (i : ℕ) (d : DeclTree) → slice_get decls i ≡ Some d → (name : List ℕ) → (k : ℕ) → InLine lines k i → (one : DeclTree) → slice_get decls k ≡ Some one → HasName name (op_names one)
      → (l : ℕ) → InLine lines l i → (other : DeclTree) → slice_get decls l ≡ Some other → HasName name (op_names other) → k ≢ l → HasClash decls i
  clash_of_two i d here name k k_in one one_at one_has l l_in other other_at other_has apart = record {
    name = name;
    one = k;
    other = l;
    has_one = has_operation i k d name here k_in one one_at one_has;
    has_other = has_operation i l d name here l_in other other_at other_has;
    different = apart;
  }

  same_place : (k l : ℕ) (one other : DeclTree) → slice_get decls k ≡ Some one → slice_get decls l ≡ Some other → (decl_name one).text ≢ (decl_name other).text → k ≢ l
  same_place k l one other one_at other_at apart same =
      let there : Some one ≡ Some other = sym one_at ∙ ap (λ n. slice_get decls n) same ∙ other_at in
      let decl : one ≡ other = cc in
      apart (ap (λ (x : DeclTree). (decl_name x).text) decl)

  clash_of_words : (i : ℕ) (d : DeclTree) → slice_get decls i ≡ Some d → (k : ℕ) → InLine lines k i → (one : DeclTree) → slice_get decls k ≡ Some one → (word : Word) → HasName word.text (op_names one)
      → (l : ℕ) → InLine lines l i → (other : DeclTree) → slice_get decls l ≡ Some other → Any (λ w. (word.text ≡ w.text) × ((decl_name one).text ≢ (decl_name other).text)) (op_names other) → HasClash decls i
  clash_of_words i d here k k_in one one_at word one_has l l_in other other_at others =
      clash_of_two i d here word.text k k_in one one_at one_has l l_in other other_at
      (any_weaker (λ (w : Word). (word.text ≡ w.text) × ((decl_name one).text ≢ (decl_name other).text)) (λ w. w.text ≡ word.text) (λ w both. sym both.0) (op_names other) others)
      (same_place k l one other one_at other_at others.4.1)

  clash_of_shared : (i : ℕ) (d : DeclTree) → slice_get decls i ≡ Some d → ShareName (table i) → HasClash decls i
  clash_of_shared i d here share =
      let one = of_line (λ one. Any (λ other. (one.name ≡ other.name) × (one.declarer ≢ other.declarer)) (table i)) decls (get_or lines i []) share in
      let word = one.2.op.1 in
      let other = of_line (λ other. (word.text ≡ other.name) × ((decl_name one.2.decl).text ≢ other.declarer)) decls (get_or lines i []) one.2.op.4 in
      clash_of_words i d here one.0 one.1 one.2.decl one.2.decl_at word (one.2.op.0, word, one.2.op.2, one.2.op.3, refl) other.0 other.1 other.2.decl other.2.decl_at other.2.op

  shared_of_clash : (i : ℕ) → HasClash decls i → ShareName (table i)
  shared_of_clash i c =
      let line = get_or lines i [] in
      let a = c.has_one in
      let b = c.has_other in
      let apart : (decl_name a.declarer).text ≢ (decl_name b.declarer).text = λ same. c.different (names_apart [] decls settled.different c.one c.other a.declarer b.declarer a.declarer_at b.declarer_at same) in
      line_of_declared (λ one. Any (λ other. (one.name ≡ other.name) × (one.declarer ≢ other.declarer)) (table i)) decls line c.one (line_of_has decls settled i c.one a.declarer a.declarer_at a.from)
      (record {
        decl = a.declarer;
        decl_at = a.declarer_at;
        op = any_weaker (λ (w : Word). w.text ≡ c.name) (λ word. Any (λ other. (word.text ≡ other.name) × ((decl_name a.declarer).text ≢ other.declarer)) (table i))
            (λ word is. line_of_declared (λ other. (word.text ≡ other.name) × ((decl_name a.declarer).text ≢ other.declarer)) decls line c.other (line_of_has decls settled i c.other b.declarer b.declarer_at b.from)
            (record {
              decl = b.declarer;
              decl_at = b.declarer_at;
              op = any_weaker (λ (w : Word). w.text ≡ c.name) (λ other. (word.text ≡ other.text) × ((decl_name a.declarer).text ≢ (decl_name b.declarer).text)) (λ other same. (is ∙ sym same, apart)) (op_names b.declarer) b.declares;
            }))
            (op_names a.declarer) a.declares;
      })

  -- ---- the tables

  table_there : (i : ℕ) (d : DeclTree) → slice_get decls i ≡ Some d → slice_get (tables_of decls) i ≡ Some (table i)
  table_there i d here =
      let all = (tables_follow decls settled).all in
      let below = slice_get_within decls i d here in
      slice_get-get_or (tables_of decls) i [] (omega arith) ∙ ap (λ t. Some t) (table_at decls lines i)

  shares_of_holds : (place : ℕ) → Holds decls Clash place → SharesAt decls (tables_of decls) place
  shares_of_holds place h = record { number = h.0; stands = h.2; table = table h.0; table_at = table_there h.0 h.2.decl h.2.decl_at; share = shared_of_clash h.0 h.1 }

  holds_of_shares : (place : ℕ) → SharesAt decls (tables_of decls) place → Holds decls Clash place
  holds_of_shares place s =
      let there : Some s.table ≡ Some (table s.number) = sym s.table_at ∙ table_there s.number s.stands.decl s.stands.decl_at in
      let same : s.table ≡ table s.number = cc in
      (s.number, clash_of_shared s.number s.stands.decl s.stands.decl_at (subst (λ (t : List Operation). ShareName t) same s.share), s.stands)

-- a clash holds exactly where a table that follows the bases shows it
pub clash_shows : (decls : List DeclTree) → NoneBefore decls Clash → (tables : List (List Operation)) → FollowBases decls tables → (place : ℕ) → (Holds decls Clash place → SharesAt decls tables place) × (SharesAt decls tables place → Holds decls Clash place)
clash_shows decls none tables follow place =
    let settled = settled_before decls none in
    let same : tables_of decls ≡ tables = one_rule decls settled (tables_of decls) tables (tables_follow decls settled) follow in (
      (λ h. subst (λ (ts : List (List Operation)). SharesAt decls ts place) same (shares_of_holds decls settled place h)),
      (λ s. holds_of_shares decls settled place (subst (λ (ts : List (List Operation)). SharesAt decls ts place) (sym same) s)),
    )

-- ---- no two operations of one name

nobody : Word
nobody = record { text = []; place = 0 }

own_names_alone : (d : DeclTree) → repeat_among [] (op_names d) ≡ None → HaveOwnNames (map (λ word. op_of d word) (op_names d))
own_names_alone d none = λ i j e low below same.
    let long = length-map (op_names d) (λ word. op_of d word) in
    let differ = different_unless (op_names d) (λ place twice. among_none (op_names d) place none twice) in
    let one : get_or (map (λ word. op_of d word) (op_names d)) i e ≡ op_of d (get_or (op_names d) i nobody) = get_or-map (λ word. op_of d word) (op_names d) i nobody e (omega arith) in
    let other : get_or (map (λ word. op_of d word) (op_names d)) j e ≡ op_of d (get_or (op_names d) j nobody) = get_or-map (λ word. op_of d word) (op_names d) j nobody e (omega arith) in
    differ i j nobody low (omega arith) (sym (ap (λ (o : Operation). o.name) one) ∙ same ∙ ap (λ (o : Operation). o.name) other)

-- of two lists with no name in both
both_have : (xs ys : List Operation) → HaveOwnNames xs → HaveOwnNames ys → (Any (λ x. Any (λ y. x.name ≡ y.name) ys) xs → ⊥) → HaveOwnNames (xs ++ ys)
both_have [] ys a b apart = b
both_have (x ∷ xs) ys a b apart =
    let first : All (λ (y : Operation). x.name ≢ y.name) xs = λ k e below. a 0 (suc k) e (omega arith) (omega arith) in
    let second : All (λ (y : Operation). x.name ≢ y.name) ys = all_unless (λ (y : Operation). x.name ≢ y.name) (λ y. x.name ≡ y.name) (λ y isnt. isnt) ys (λ some. apart (any_here (λ (x : Operation). Any (λ y. x.name ≡ y.name) ys) x xs some)) in
    AllPairs-cons (λ one other. one.name ≢ other.name) x (xs ++ ys) (All-append (λ (y : Operation). x.name ≢ y.name) xs ys first second)
    (both_have xs ys (λ i j e low below. a (suc i) (suc j) e (omega arith) (omega arith)) b (λ some. apart (any_later (λ (x : Operation). Any (λ y. x.name ≡ y.name) ys) x xs some)))

module _ (decls : List DeclTree) (fits : FitsTogether decls) where
  abbrev settled : AreSettled decls
  settled = settled_of_fits decls fits

  own_at_alone : (k : ℕ) → HaveOwnNames (own_at (slice_get decls k))
  unfolding own_of
  own_at_alone k = cases (slice_get decls k) refl where
    cases : (o : Option DeclTree) → slice_get decls k ≡ o → HaveOwnNames (own_at o)
    cases None is = λ i j e low below. absurd (omega arith)
    cases (Some d) is = own_names_alone d (ops_apart decls settled.different k d is)

  line_alone : (i : ℕ) (d : DeclTree) → slice_get decls i ≡ Some d → (line : List ℕ) → Distinct line → ((k : ℕ) → has_spot k line ≡ true → InLine (lines_of decls) k i) → HaveOwnNames (line_table decls line)
  unfolding line_table
  line_alone i d here [] distinct inside = λ a b e low below. absurd (omega arith)
  line_alone i d here (k ∷ line) distinct inside =
      both_have (own_at (slice_get decls k)) (line_table decls line) (own_at_alone k) (line_alone i d here line distinct.1 (λ l h. inside l (or_right (k == l) (has_spot l line) h))) (λ some. clash (of_own (λ x. Any (λ y. x.name ≡ y.name) (line_table decls line)) decls k some))
    where
      clash : Declares (λ x. Any (λ y. x.name ≡ y.name) (line_table decls line)) decls k → ⊥
      clash one =
          let word = one.op.1 in
          let other = of_line (λ y. word.text ≡ y.name) decls line one.op.4 in
          let apart : k ≢ other.0 = λ same. both_ways (has_spot other.0 line) (subst (λ n. has_spot n line ≡ false) same distinct.0) other.1 in
          fits.clear i
          (clash_of_two decls settled i d here word.text k (inside k (or_left (k == k) (has_spot k line) (eq-eqb k k refl))) one.decl one.decl_at (one.op.0, word, one.op.2, one.op.3, refl)
          other.0 (inside other.0 (or_right (k == other.0) (has_spot other.0 line) other.1)) other.2.decl other.2.decl_at
          (any_weaker (λ (w : Word). word.text ≡ w.text) (λ w. w.text ≡ word.text) (λ w same. sym same) (op_names other.2.decl) other.2.op) apart)

  own_names : (i : ℕ) (d : DeclTree) → slice_get decls i ≡ Some d → HaveOwnNames (line_table decls (get_or (lines_of decls) i []))
  own_names i d here = line_alone i d here (get_or (lines_of decls) i []) (line_distinct decls settled i d here) (λ k h. h)

  -- no two operations of one table have one name
  pub tables_differ : All HaveOwnNames (tables_of decls)
  tables_differ = λ i e below.
      let all = (tables_follow decls settled).all in
      let d = get_or decls i (EnumOf nobody []) in
      let here = slice_get-get_or decls i (EnumOf nobody []) (omega arith) in
      let there = table_there decls settled i d here in
      subst (λ (t : List Operation). HaveOwnNames t) (sym (get_or_from_slice_get (tables_of decls) i (line_table decls (get_or (lines_of decls) i [])) e there)) (own_names i d here)
