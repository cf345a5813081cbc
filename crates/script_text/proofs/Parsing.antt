-- What parsing returned, from what reading gives.
use Rattle.std.proofs.Common.{◌≡◌, ℕ, List, Result, Ok, Err, sym, ap, ◌∙◌, subst, inl, inr}
use Rattle.std.specs.Prelude.{IfOk, MatchResult}
use Rattle.script_text.specs.declared.script.Script.{Script}
use Rattle.script_text.specs.declared.why.Refused.{Refused}
use Rattle.script_text.specs.Grammar.{IsScript, spelling}
use Rattle.script_text.specs.Reading.{Parses, script_at, no_memory}
use Rattle.script_text.proofs.ScriptFound.{script_found, ok_script}
use Rattle.script_text.proofs.ScriptAgain.{script_again}

pub parses_found : (text : List ℕ) (r : Result Script Refused) → Parses r (script_at text) → IfOk r (λ script. IsScript script × (text ≡ spelling script))
parses_found text (Ok script) h = script_found text script h
parses_found text (Err refused) h = tt

as_read : (r : Result Script Refused) (script : Script) → Parses r (Ok script) → MatchResult r (λ read. read ≡ script) (λ refused. refused ≡ no_memory)
as_read (Ok read) script h = sym (ok_script script read h)
as_read (Err refused) script (inl memory) = memory
as_read (Err refused) script (inr other) = absurd cc

pub parses_only : (text : List ℕ) (r : Result Script Refused) → Parses r (script_at text) → (script : Script) → IsScript script → text ≡ spelling script → MatchResult r (λ read. read ≡ script) (λ refused. refused ≡ no_memory)
parses_only text r h script is spelled = as_read r script (subst (Parses r) (ap script_at spelled ∙ script_again script is) h)
