-- Declarations that fit together.
use Rattle.std.specs.Prelude.{◌≡◌, ℕ, List}
use Rattle.idl_reader.specs.declared.idl.Idl.{Idl}
use Rattle.idl_reader.specs.Grammar.{AreDecls}
use Rattle.idl_reader.specs.Tree.{idl_tree}
use Rattle.idl_check.specs.FitsTogether.{FitsTogether}
use Rattle.idl_check.specs.Reach.{ranks_of}

-- the declarations of a text, and a number for each, which is greater than those of what it is made of
pub record Fit : Type 0 where
  pub idl : Idl
  pub ranks : List ℕ

-- a text can declare them, they fit together, and the numbers count what each declaration is made of
pub record IsFit (fit : Fit) : Type 0 where
  pub said : AreDecls (idl_tree fit.idl)
  pub fits : FitsTogether (idl_tree fit.idl)
  pub ranked : fit.ranks ≡ ranks_of (idl_tree fit.idl)
