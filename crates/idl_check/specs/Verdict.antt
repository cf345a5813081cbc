-- The verdict on declarations, as the checker finds it: the reasons are tested one after the other over the whole text, and of
-- one reason the first place in the text counts. What it means stands in FitsTogether.
use Rattle.std.specs.Prelude.{◌≡◌, ℕ, ◌+◌, List, [], ◌∷◌, ◌++◌, length, Bool, ◌&&◌, ◌||◌, ◌==◌, not, map, if◌then◌else◌, Option, Some, None, Result, Ok, Err}
use Rattle.std.specs.List.{flat_map, list_any, range_with_len}
use Rattle.std.specs.Str.{bytes_eq}
use Rattle.idl_reader.specs.declared.idl.Word.{Word}
use Rattle.idl_reader.specs.Tree.{OpTree, DeclTree, StructOf, EnumOf, InterfaceOf}
use Rattle.idl_check.specs.declared.why.UnfitWhy.{UnfitWhy}
use Rattle.idl_check.specs.declared.why.UnfitWhy.TheVariants.{Repeated, UnknownType, NotInterface, Cycle, Clash, Memory}
use Rattle.idl_check.specs.declared.why.IdlUnfit.{IdlUnfit}
use Rattle.idl_check.specs.Why.{no_memory}
use Rattle.idl_check.specs.Names.{decl_name, is_interface, has_name, uses, bases_of, op_names}
use Rattle.idl_check.specs.Reach.{at, reached}

abbrev pub or_else : Option ℕ → Option ℕ → Option ℕ
or_else (Some place) other = Some place
or_else None other = other

-- the place of the first word that equals an earlier one
abbrev pub repeat_among : List Word → List Word → Option ℕ
repeat_among before [] = None
repeat_among before (word ∷ words) = if has_name word.text before then Some word.place else repeat_among (before ++ word ∷ []) words

-- of the operations of one interface, or of the parameters of one of them
abbrev pub repeat_in_ops : List Word → List OpTree → Option ℕ
repeat_in_ops before [] = None
repeat_in_ops before (op ∷ ops) = if has_name op.name.text before then Some op.name.place else or_else (repeat_among [] (map (λ param. param.name) op.params)) (repeat_in_ops (before ++ op.name ∷ []) ops)

-- of the fields, names, bases or operations of one declaration
abbrev pub repeat_in_decl : DeclTree → Option ℕ
repeat_in_decl (StructOf name fields) = repeat_among [] (map (λ field. field.name) fields)
repeat_in_decl (EnumOf name names) = repeat_among [] names
repeat_in_decl (InterfaceOf name bases ops) = or_else (repeat_among [] bases) (repeat_in_ops [] ops)

abbrev pub repeat_in : List Word → List DeclTree → Option ℕ
repeat_in before [] = None
repeat_in before (d ∷ ds) = if has_name (decl_name d).text before then Some (decl_name d).place else or_else (repeat_in_decl d) (repeat_in (before ++ decl_name d ∷ []) ds)

-- the place of the first word that fails the test
abbrev pub first_failing : (Word → Bool) → List Word → Option ℕ
first_failing test [] = None
first_failing test (word ∷ words) = if test word then first_failing test words else Some word.place

abbrev pub declares : List DeclTree → Word → Bool
declares decls word = has_name word.text (map (λ d. decl_name d) decls)

abbrev pub declares_interface : List DeclTree → Word → Bool
declares_interface decls word = list_any (λ d. is_interface d && bytes_eq (decl_name d).text word.text) decls

-- a type or base that is not declared
abbrev pub first_unknown : List DeclTree → Option ℕ
first_unknown decls = first_failing (λ word. declares decls word) (flat_map (λ d. uses d) decls)

-- a base that is no interface
abbrev pub first_wrong_base : List DeclTree → Option ℕ
first_wrong_base decls = first_failing (λ word. declares_interface decls word) (flat_map (λ d. bases_of d) decls)

-- a declaration that reaches itself, from the i-th on
abbrev pub cycle_from : List (List Bool) → ℕ → List DeclTree → Option ℕ
cycle_from rows i [] = None
cycle_from rows i (d ∷ ds) = if at rows i i then Some (decl_name d).place else cycle_from rows (i + 1) ds

abbrev pub first_cycle : List DeclTree → Option ℕ
first_cycle decls = cycle_from (reached decls) 0 decls

-- two interfaces that have an operation of one name
abbrev pub shares_name : DeclTree → DeclTree → Bool
shares_name d e = list_any (λ word. has_name word.text (op_names e)) (op_names d)

unfoldable pub sharing_row : List DeclTree → DeclTree → List Bool
sharing_row decls d = map (λ e. shares_name d e) decls

abbrev pub sharing : List DeclTree → List (List Bool)
sharing decls = map (λ d. sharing_row decls d) decls

-- the i-th has the operations of the k-th: its own, or inherited ones
abbrev pub has_ops : List (List Bool) → ℕ → ℕ → Bool
has_ops rows i k = (i == k) || at rows i k

-- a number below the bound passes the test
abbrev pub any_below : ℕ → (ℕ → Bool) → Bool
any_below bound test = list_any test (range_with_len 0 bound)

-- the i-th has the operations of the l-th, which is another than the k-th and shares a name with it
abbrev pub clashes_at : List (List Bool) → List (List Bool) → ℕ → ℕ → ℕ → Bool
clashes_at rows shared i k l = has_ops rows i l && not (k == l) && at shared k l

-- the i-th has the operations of the k-th too
abbrev pub clashes_with : List (List Bool) → List (List Bool) → ℕ → ℕ → Bool
clashes_with rows shared i k = has_ops rows i k && any_below (length rows) (clashes_at rows shared i k)

-- two different interfaces, whose operations the i-th has, have an operation of one name
abbrev pub has_clash : List (List Bool) → List (List Bool) → ℕ → Bool
has_clash rows shared i = any_below (length rows) (clashes_with rows shared i)

abbrev pub clash_from : List (List Bool) → List (List Bool) → ℕ → List DeclTree → Option ℕ
clash_from rows shared i [] = None
clash_from rows shared i (d ∷ ds) = if is_interface d && has_clash rows shared i then Some (decl_name d).place else clash_from rows shared (i + 1) ds

abbrev pub first_clash : List DeclTree → Option ℕ
first_clash decls = clash_from (reached decls) (sharing decls) 0 decls

abbrev pub or_unfit : UnfitWhy → Option ℕ → Option IdlUnfit → Option IdlUnfit
or_unfit why (Some place) other = Some (record { place = place; why = why })
or_unfit why None other = other

-- the first reason why declarations do not fit together, and its first place
unfoldable pub unfit : List DeclTree → Option IdlUnfit
unfit decls =
    or_unfit Repeated (repeat_in [] decls)
    (or_unfit UnknownType (first_unknown decls)
    (or_unfit NotInterface (first_wrong_base decls)
    (or_unfit Cycle (first_cycle decls)
    (or_unfit Clash (first_clash decls) None))))

abbrev pub passes : UnfitWhy → Option ℕ → Result (Unit {0}) IdlUnfit
passes why None = Ok tt
passes why (Some place) = Err (record { place = place; why = why })

-- A refusal is the first reason with its first place, or out of memory.
abbrev pub Tells : UnfitWhy → IdlUnfit → Option IdlUnfit → Type 0
Tells Memory e found = e ≡ no_memory
Tells why e found = found ≡ Some e

abbrev pub IsUnfit : IdlUnfit → Option IdlUnfit → Type 0
IsUnfit e found = Tells e.why e found
