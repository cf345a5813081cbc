use Rattle.std.proofs.Common.{◌≡◌, ◌≢◌, ℕ, ◌<◌, ◌≤◌, List, [], ◌∷◌, length, map, Bor, Err, refl, arith}
use Rattle.script_text.specs.declared.verb.Verb.{Verb}
use Rattle.script_text.specs.declared.verb.Verb.TheVariants as verbs
use Rattle.script_text.specs.declared.why.ScriptWhy.TheVariants as why
use Rattle.script_text.specs.declared.script.Call.{Call}
use Rattle.script_text.specs.Reading.{args_at, five_at}
use Rattle.script_text.proofs.calls.args.Goals as goal

-- no call has so many arguments
six : (verb : Verb) (words : List (Bor (List ℕ))) → 6 ≤ length words → args_at verb (map (λ word. word.now) words) ≡ Err why.Words
six verb (a ∷ b ∷ c ∷ d ∷ e ∷ f ∷ words) most = refl
six verb [] most = absurd (omega arith)
six verb (a ∷ []) most = absurd (omega arith)
six verb (a ∷ b ∷ []) most = absurd (omega arith)
six verb (a ∷ b ∷ c ∷ []) most = absurd (omega arith)
six verb (a ∷ b ∷ c ∷ d ∷ []) most = absurd (omega arith)
six verb (a ∷ b ∷ c ∷ d ∷ e ∷ []) most = absurd (omega arith)

pub returns-in-len6-up : goal.returns-in-len6-up
returns-in-len6-up c = six c.args.verb c.args.words.now c.in-len6-up.len_at_least

-- a map alone has five
no_map : (verb : Verb) (a b c d e : List ℕ) → verb ≢ verbs.Map → five_at verb a b c d e ≡ Err why.Words
no_map verbs.Map a b c d e other = absurd (other refl)
no_map verbs.Context a b c d e other = refl
no_map verbs.Bind a b c d e other = refl
no_map verbs.Replicate a b c d e other = refl
no_map verbs.Unbind a b c d e other = refl
no_map verbs.List a b c d e other = refl
no_map verbs.Open a b c d e other = refl
no_map verbs.Copy a b c d e other = refl
no_map verbs.Drop a b c d e other = refl
no_map verbs.Read a b c d e other = refl
no_map verbs.Write a b c d e other = refl
no_map verbs.Clear a b c d e other = refl
no_map verbs.Sync a b c d e other = refl
no_map verbs.Clean a b c d e other = refl
no_map verbs.Unmap a b c d e other = refl
no_map verbs.Load a b c d e other = refl
no_map verbs.Store a b c d e other = refl
no_map verbs.Revoke a b c d e other = refl
no_map verbs.Release a b c d e other = refl

five : (verb : Verb) (words : List (Bor (List ℕ))) → 5 ≤ length words → length words < 6 → verb ≢ verbs.Map → args_at verb (map (λ word. word.now) words) ≡ Err why.Words
five verb [] most few other = absurd (omega arith)
five verb (a ∷ []) most few other = absurd (omega arith)
five verb (a ∷ b ∷ []) most few other = absurd (omega arith)
five verb (a ∷ b ∷ c ∷ []) most few other = absurd (omega arith)
five verb (a ∷ b ∷ c ∷ d ∷ []) most few other = absurd (omega arith)
five verb (a ∷ b ∷ c ∷ d ∷ e ∷ []) most few other = no_map verb a.now b.now c.now d.now e.now other
five verb (a ∷ b ∷ c ∷ d ∷ e ∷ f ∷ words) most few other = absurd (omega arith)

pub returns-in_default-verb-2 : goal.returns-in_default-verb-2
returns-in_default-verb-2 c = five c.args.verb c.args.words.now c.in-len5.len_at_least c.in-len5.len_below c.in_default-verb-2.not-Map
