-- The interfaces that a text declares.
use Rattle.std.specs.Prelude.{◌≡◌, ℕ, List, Some, Err}
use Rattle.idl_reader.specs.Tree.{DeclTree, idl_tree}
use Rattle.idl_reader.specs.Grammar.{IsTextOf}
use Rattle.idl_reader.specs.Reading.{idl_at}
use Rattle.idl_check.specs.declared.why.IdlUnfit.{IdlUnfit}
use Rattle.idl_check.specs.FitsTogether.{FitsTogether, IsReason}
use Rattle.idl_check.specs.Verdict.{unfit}
use Rattle.run_texts.specs.Found.{HasNumbers, IsFirstMissing}
use Rattle.run_texts.specs.Order.{order}
use Rattle.idl_tables.specs.Rule.{FollowBases}
use Rattle.idl_tables.specs.TableSet.{Tabled, IsTabled}
use Rattle.idl_tables.specs.Tables.{Operation, tables_text}
use Rattle.pager_channel.specs.declared.numbers.Ops.{Ops}
use Rattle.pager_channel.specs.declared.operation.Operation.{Operation as Service}
use Rattle.spr_io.specs.Causes.{Rose}
use Rattle.spr_io.specs.Texts.{ShelfSeen}
use Rattle.run_texts.specs.declared.interfaces.TheConstants.{IDL_LIMIT}
use Rattle.run_texts.specs.declared.refusal.Refusal.{Refusal}
use Rattle.run_texts.specs.declared.refusal.Refusal.TheVariants as refusals
use Rattle.run_texts.specs.Stacks.{IsText}

-- the text declares these, and they fit together
pub record Declares (text : List ℕ) (decls : List DeclTree) : Type 0 where
  pub declared : IsTextOf text decls
  pub fit : FitsTogether decls

-- these are the tables of declarations that fit together
pub record AreTables (decls : List DeclTree) (set : Tabled) : Type 0 where
  pub of_decls : idl_tree set.idl ≡ decls
  pub tabled : IsTabled set

-- the declarations fit together, and these are the numbers of the operations in their tables
pub record AreOps (decls : List DeclTree) (ops : Ops) : Type 0 where
  pub set : Tabled
  pub tables : AreTables decls set
  pub numbers : HasNumbers set ops

-- the declarations fit together, and this is the first operation that their tables lack
pub record LackOp (decls : List DeclTree) (which : Service) : Type 0 where
  pub set : Tabled
  pub tables : AreTables decls set
  pub first : IsFirstMissing set order which

-- the text of the name declares interfaces that fit together, and these are the numbers of the operations in their tables
pub record HasInterfaces (shelf : ShelfSeen) (name : List ℕ) (ops : Ops) : Type 0 where
  pub text : List ℕ
  pub text_is : IsText shelf IDL_LIMIT name text
  pub decls : List DeclTree
  pub declared : IsTextOf text decls
  pub ops_are : AreOps decls ops

-- the lines of the tables of declarations, in which each follows its bases
pub record AreLines (decls : List DeclTree) (lines : List ℕ) : Type 0 where
  pub tables : List (List Operation)
  pub follow : FollowBases decls tables
  pub lines_are : lines ≡ tables_text tables 0 decls

-- the text of the name declares interfaces that fit together, and these are the lines of their tables
pub record AreTablesOf (shelf : ShelfSeen) (name lines : List ℕ) : Type 0 where
  pub text : List ℕ
  pub text_is : IsText shelf IDL_LIMIT name text
  pub decls : List DeclTree
  pub declares : Declares text decls
  pub lines_are : AreLines decls lines

-- the first reason why declarations do not fit together, and the first place where it holds
pub record DoNotFit (decls : List DeclTree) (why : IdlUnfit) : Type 0 where
  pub reason : IsReason decls why
  pub first : unfit decls ≡ Some why

abbrev pub IsUnfitBy : List DeclTree → Refusal → Type 0
IsUnfitBy decls (refusals.IdlUnfit place why) = DoNotFit decls (record { place = place; why = why })
IsUnfitBy decls refusals.Memory = Unit {0}
IsUnfitBy decls refusal = ⊥

abbrev pub IsLackedBy : List DeclTree → Refusal → Type 0
IsLackedBy decls (refusals.IdlMissing which) = LackOp decls which
IsLackedBy decls refusals.Memory = Unit {0}
IsLackedBy decls refusal = ⊥

-- why interfaces are refused: the first place that is wrong and why; or the first reason why they do not fit together, and
-- the first place where it holds
abbrev pub RefusesInterfaces : List ℕ → Refusal → Type 0
RefusesInterfaces text (refusals.Idl place why) = idl_at text ≡ Err (record { place = place; why = why })
RefusesInterfaces text (refusals.IdlUnfit place why) = (decls : List DeclTree) × IsTextOf text decls × DoNotFit decls (record { place = place; why = why })
RefusesInterfaces text refusals.Memory = Unit {0}
RefusesInterfaces text refusal = ⊥

-- A refusal of interfaces has its cause: a fault of the shelf, or their text. Without such a fault the shelf had none.
abbrev pub IsInterfacesCause : ShelfSeen → ShelfSeen → List ℕ → Refusal → Type 0
IsInterfacesCause before after idl refusals.IdlShelf = Rose before.faults after.faults
IsInterfacesCause before after idl refusals.Memory = after.faults ≡ before.faults
IsInterfacesCause before after idl refusal = (after.faults ≡ before.faults) × ((text : List ℕ) × IsText before IDL_LIMIT idl text × RefusesInterfaces text refusal)

-- why a run refuses interfaces: that, or the first operation that their tables lack
abbrev pub RefusesOps : List ℕ → Refusal → Type 0
RefusesOps text (refusals.IdlMissing which) = (decls : List DeclTree) × IsTextOf text decls × LackOp decls which
RefusesOps text refusal = RefusesInterfaces text refusal

-- A refusal of a run's interfaces has its cause: that, or an operation that their tables lack.
abbrev pub IsOpsCause : ShelfSeen → ShelfSeen → List ℕ → Refusal → Type 0
IsOpsCause before after idl (refusals.IdlMissing which) = (after.faults ≡ before.faults) × ((text : List ℕ) × IsText before IDL_LIMIT idl text × RefusesOps text (refusals.IdlMissing which))
IsOpsCause before after idl refusal = IsInterfacesCause before after idl refusal
