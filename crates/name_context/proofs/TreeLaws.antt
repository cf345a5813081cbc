-- The names of the map's entries.
use Rattle.std.proofs.Common.{◌≡◌, ℕ, Bool, true, false, cond, not, List, [], ◌∷◌, ◌++◌, filter, Option, Some, None, find, refl, ap, ◌∙◌, nat_eq}
use Rattle.std.specs.List.{filter_map, cons_option, starts_with}
use Rattle.std.specs.Option.{option_map}
use Rattle.std.specs.Cmp.Lexicographic.{pointwise}
use Rattle.std.specs.Str.{bytes_eq}
use Rattle.std.specs.Map.{lookup, values_of}
use Rattle.std.specs.declared.vec.Vec.{Vec}
use Rattle.std.specs.declared.alloc.Global.{Global}
use Rattle.name_context.specs.declared.tree.Bound.{Bound}
use Rattle.name_context.specs.Names.{Name, kept_at}
use Rattle.name_context.specs.History.{without}
use Rattle.name_context.specs.Keys.{path_key}
use Rattle.name_context.specs.TreeView.{kept_of, name_of, names_of, AreKeyed}
use Rattle.name_context.proofs.KeyLaws.{key_eq-path_eq}

abbrev pub Entry : Type 0
Entry = Vec ℕ Global × Bound

found-step : (b : Bool) (e : Entry) (rest : Option Bound) (others : Option Name) → option_map (λ (bound : Bound). kept_of bound.binding) rest ≡ option_map (λ (name : Name). name.kept) others
    → option_map (λ (bound : Bound). kept_of bound.binding) (cond b (Some e.1) rest) ≡ option_map (λ (name : Name). name.kept) (cond b (Some (name_of e)) others)
found-step true e rest others same = refl
found-step false e rest others same = same

-- what the map has under the key of a path stands there
pub lookup-kept_at : (path : List (List ℕ)) (key : List ℕ) (entries : List Entry) → key ≡ path_key path → AreKeyed entries
    → option_map (λ (bound : Bound). kept_of bound.binding) (lookup (λ (k : Vec ℕ Global). pointwise nat_eq key k.items) entries) ≡ kept_at (names_of entries) path
lookup-kept_at path key [] is keyed = refl
lookup-kept_at path key (e ∷ entries) is keyed =
    let rest = lookup-kept_at path key entries is keyed.1 in
    found-step (pointwise nat_eq key e.0.items) e (lookup (λ (k : Vec ℕ Global). pointwise nat_eq key k.items) entries) (find (λ (name : Name). pointwise bytes_eq name.path path) (names_of entries)) rest
    ∙ ap (λ (b : Bool). option_map (λ (name : Name). name.kept) (cond b (Some (name_of e)) (find (λ (name : Name). pointwise bytes_eq name.path path) (names_of entries))))
    (key_eq-path_eq path e.1.path key e.0.items is keyed.0)

map-none : (found : Option Bound) → option_map (λ (bound : Bound). kept_of bound.binding) found ≡ None → found ≡ None
map-none None e = refl
map-none (Some bound) e = absurd cc

-- where nothing stands the map has no entry
pub lookup-free : (path : List (List ℕ)) (key : List ℕ) (entries : List Entry) → key ≡ path_key path → AreKeyed entries → kept_at (names_of entries) path ≡ None
    → lookup (λ (k : Vec ℕ Global). pointwise nat_eq key k.items) entries ≡ None
lookup-free path key entries is keyed free = map-none _ (lookup-kept_at path key entries is keyed ∙ free)

pub names_of-push : (entries : List Entry) (e : Entry) → names_of (entries ++ e ∷ []) ≡ names_of entries ++ name_of e ∷ []
names_of-push [] e = refl
names_of-push (first ∷ entries) e = ap (λ (names : List Name). name_of first ∷ names) (names_of-push entries e)

pub AreKeyed-push : (entries : List Entry) (e : Entry) → AreKeyed entries → e.0.items ≡ path_key e.1.path → AreKeyed (entries ++ e ∷ [])
AreKeyed-push [] e keyed key = (key, tt)
AreKeyed-push (first ∷ entries) e keyed key = (keyed.0, AreKeyed-push entries e keyed.1 key)

-- the entries that do not begin with a path
abbrev pub stays : List (List ℕ) → Entry → Bool
stays path e = not (starts_with bytes_eq e.1.path path)

kept-step : (b : Bool) (e : Entry) (entries : List Entry) (names : List Name) → names_of entries ≡ names → names_of (cond b (e ∷ entries) entries) ≡ cond b (name_of e ∷ names) names
kept-step true e entries names same = ap (λ (ns : List Name). name_of e ∷ ns) same
kept-step false e entries names same = same

pub names_of-without : (path : List (List ℕ)) (entries : List Entry) → names_of (filter (stays path) entries) ≡ without (names_of entries) path
names_of-without path [] = refl
names_of-without path (e ∷ entries) = kept-step (stays path e) e (filter (stays path) entries) (without (names_of entries) path) (names_of-without path entries)

keyed-step : (b : Bool) (e : Entry) (entries : List Entry) → e.0.items ≡ path_key e.1.path → AreKeyed entries → AreKeyed (cond b (e ∷ entries) entries)
keyed-step true e entries key keyed = (key, keyed)
keyed-step false e entries key keyed = keyed

pub AreKeyed-without : (path : List (List ℕ)) (entries : List Entry) → AreKeyed entries → AreKeyed (filter (stays path) entries)
AreKeyed-without path [] keyed = tt
AreKeyed-without path (e ∷ entries) keyed = keyed-step (stays path e) e (filter (stays path) entries) keyed.0 (AreKeyed-without path entries keyed.1)

-- what is made of the paths of the map's values is made of the names' paths
pub filter_map-names_of : (part : List (List ℕ) → Option (List ℕ)) (entries : List Entry)
    → filter_map (λ (bound : Bound). part bound.path) (values_of entries) ≡ filter_map (λ (name : Name). part name.path) (names_of entries)
filter_map-names_of part [] = refl
filter_map-names_of part (e ∷ entries) = ap (cons_option (part e.1.path)) (filter_map-names_of part entries)
