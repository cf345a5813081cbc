-- The names of objects are UTF-8.
use Rattle.std.proofs.Common.{ℕ, List, [], ◌∷◌, sym, subst, lit<}
use Rattle.std.specs.Str.{IsUtf8}
use Rattle.std.proofs.lemmas.Str.{IsUtf8-from_ascii}
use Rattle.std.proofs.lemmas.Str.Ascii.{IsAscii-cons, IsAscii-nil}
use Rattle.text_words.proofs.WordLaws.{path_utf8}
use Rattle.sub_core.specs.declared.shape.Form.{Form}
use Rattle.sub_core.specs.declared.shape.Form.TheVariants.{Bare, Tagged, Managed, Pathed}
use Rattle.sub_core.specs.Names.{manager_name}
use Rattle.sub_core.specs.Forms.{IsNameOf}

pub name_utf8 : (form : Form) (name : List ℕ) → IsNameOf form name → IsUtf8 name
name_utf8 Bare name is = subst IsUtf8 (sym is) (IsUtf8-from_ascii [] IsAscii-nil)
name_utf8 Tagged name is = subst IsUtf8 (sym is) (IsUtf8-from_ascii [] IsAscii-nil)
name_utf8 Managed name is = subst IsUtf8 (sym is) (IsUtf8-from_ascii manager_name (IsAscii-cons 118 (109 ∷ 109 ∷ []) (lit< tt) (IsAscii-cons 109 (109 ∷ []) (lit< tt) (IsAscii-cons 109 [] (lit< tt) IsAscii-nil))))
name_utf8 Pathed name is = path_utf8 name is
