-- How a client's lines are put together.
use Rattle.std.proofs.Common.{◌≡◌, ◌≢◌, ℕ, zero, suc, ◌+◌, ◌<◌, ◌≤◌, ◌==◌, Bool, true, false, cond, List, [], ◌∷◌, ◌++◌, length, take, get_or, sym, ap, subst, ◌∙◌, arith}
use Rattle.std.proofs.lemmas.List.{append-nil, take_more, length-map}
use Rattle.std.proofs.lemmas.Bool.Decides.{nat_tests}
use Rattle.std.proofs.lemmas.List.Elements.{filter-append}
use Rattle.script_text.specs.declared.script.CallLine.{CallLine}
use Rattle.script_text.specs.declared.script.Said.{Said}
use Rattle.script_text.specs.declared.script.Reply.{Reply}
use Rattle.stack_accept.specs.Mount.{Mount}
use Rattle.client_objects.specs.declared.state.ClientState.{ClientState}
use Rattle.script_meaning.specs.Log.{IsFull}
use Rattle.script_meaning.specs.Plan.{plan}
use Rattle.script_meaning.specs.Fits.{lines_of}
use Rattle.script_meaning.proofs.Parts.{did_then, does-lines, worked_more}
use Rattle.spr_volume.specs.Passes.{Knows, as_known}
use Rattle.spr_client.specs.Calls.{histories}
use Rattle.spr_client.specs.Lines.{LineDone, LinesDone, OthersIdle}

is_own : (a b : ℕ) → a ≡ b → (a == b) ≡ true
is_own a b e = grind (arith, nat_tests)

is_other : (a b : ℕ) → a ≢ b → (a == b) ≡ false
is_other a b n = grind (arith, nat_tests)

pass-then : (a b c : Knows) → b ≡ as_known a b → c ≡ as_known b c → c ≡ as_known a c
pass-then a b c f g = g ∙ ap (λ (p : Knows). as_known p c) f

-- the others did nothing, and then nothing
idle-then : (mount : Mount) (caller : ℕ) (a b c : Knows) → b ≡ as_known a b → OthersIdle mount caller a b → OthersIdle mount caller b c → OthersIdle mount caller a c
idle-then mount caller a b c is f g = λ other ne low high.
    did_then other (histories mount a) (histories mount b) (histories mount c) [] [] (f other ne low high)
    (g other ne (subst (λ (p : Knows). p.first ≤ other) (sym is) low) (subst (λ (p : Knows). other < p.end) (sym is) high))

-- lines, and one more
lines-more : (mount : Mount) (caller : ℕ) (kept : ClientState) (lines : List CallLine) (line : CallLine) (old mid new : Knows) (said : List Said) (reply : Reply) (state left : ClientState)
    → LinesDone mount caller kept lines old mid said state → LineDone mount caller state (plan mount state line.call) mid new reply left
    → LinesDone mount caller kept (lines ++ line ∷ []) old new (said ++ record { line = line.line; reply = reply } ∷ []) left
lines-more mount caller kept lines line old mid new said reply state left done one = record {
  pass = pass-then old mid new done.pass one.pass;
  worked = worked_more mount caller kept lines (histories mount old) (histories mount mid) (histories mount new) said state line reply left done.worked one.went;
  others = idle-then mount caller old mid new done.pass done.others one.others;
}

-- a client's lines among the first lines and the next
lines_of-next : (c : ℕ) (lines : List CallLine) (i : ℕ) (line : CallLine) → line ≡ get_or lines i line → i < length lines → lines_of c (take (i + 1) lines) ≡ lines_of c (take i lines) ++ lines_of c (line ∷ [])
lines_of-next c lines i line is lt =
    ap (λ (ls : List CallLine). lines_of c ls) (take_more lines i line lt ∙ ap (λ (l : CallLine). take i lines ++ l ∷ []) (sym is)) ∙ filter-append (λ (l : CallLine). l.client == c) (take i lines) (line ∷ [])

-- if the next line is the client's own
lines_of-own : (c : ℕ) (lines : List CallLine) (i : ℕ) (line : CallLine) → line ≡ get_or lines i line → i < length lines → line.client ≡ c → lines_of c (take (i + 1) lines) ≡ lines_of c (take i lines) ++ line ∷ []
lines_of-own c lines i line is lt own = lines_of-next c lines i line is lt ∙ ap (λ b. lines_of c (take i lines) ++ cond b (line ∷ []) []) (is_own line.client c own)

-- if the next line is another client's
lines_of-other : (c : ℕ) (lines : List CallLine) (i : ℕ) (line : CallLine) → line ≡ get_or lines i line → i < length lines → line.client ≢ c → lines_of c (take (i + 1) lines) ≡ lines_of c (take i lines)
lines_of-other c lines i line is lt other =
    lines_of-next c lines i line is lt ∙ (ap (λ b. lines_of c (take i lines) ++ cond b (line ∷ []) []) (is_other line.client c other) ∙ append-nil (lines_of c (take i lines)))

-- the client's lines among the first lines, and its next one
pub lines-own : (mount : Mount) (c : ℕ) (kept : ClientState) (lines : List CallLine) (i : ℕ) (line : CallLine) (old mid new : Knows) (said : List Said) (reply : Reply) (state left : ClientState)
    → line ≡ get_or lines i line → i < length lines → line.client ≡ c → LinesDone mount c kept (lines_of c (take i lines)) old mid said state → LineDone mount c state (plan mount state line.call) mid new reply left
    → LinesDone mount c kept (lines_of c (take (i + 1) lines)) old new (said ++ record { line = line.line; reply = reply } ∷ []) left
lines-own mount c kept lines i line old mid new said reply state left is lt own done one =
    subst (λ (ls : List CallLine). LinesDone mount c kept ls old new (said ++ record { line = line.line; reply = reply } ∷ []) left) (sym (lines_of-own c lines i line is lt own))
    (lines-more mount c kept (lines_of c (take i lines)) line old mid new said reply state left done one)

-- the client's lines among the first lines, if the next one is another's
pub lines-other : (mount : Mount) (c : ℕ) (kept : ClientState) (lines : List CallLine) (i : ℕ) (line : CallLine) (old new : Knows) (said : List Said) (left : ClientState)
    → line ≡ get_or lines i line → i < length lines → line.client ≢ c → LinesDone mount c kept (lines_of c (take i lines)) old new said left → LinesDone mount c kept (lines_of c (take (i + 1) lines)) old new said left
lines-other mount c kept lines i line old new said left is lt other done = subst (λ (ls : List CallLine). LinesDone mount c kept ls old new said left) (sym (lines_of-other c lines i line is lt other)) done

-- so many lines have so many answers
pub answers-len : (mount : Mount) (caller : ℕ) (kept : ClientState) (lines : List CallLine) (old new : Knows) (said : List Said) (left : ClientState) → LinesDone mount caller kept lines old new said left → length said ≡ length lines
answers-len mount caller kept lines old new said left done =
    let e = does-lines mount (IsFull (histories mount new)) caller kept lines done.worked.made said left done.worked.does in
    sym (length-map said (λ (s : Said). s.line)) ∙ (ap length e ∙ length-map lines (λ (l : CallLine). l.line))

own-of : (b : Bool) (l : CallLine) (xs ys : List CallLine) → length xs < length ys → length (cond b (l ∷ xs) xs) < length (cond b (l ∷ ys) ys)
own-of true l xs ys lt = omega arith
own-of false l xs ys lt = lt

-- a line of a client is one more of its lines among the first
pub own-more : (lines : List CallLine) (i c : ℕ) (line : CallLine) → line ≡ get_or lines i line → i < length lines → line.client ≡ c → length (lines_of c (take i lines)) < length (lines_of c lines)
own-more [] i c line is lt own = absurd (omega arith)
own-more (l ∷ lines) zero c line is lt own =
    subst (λ b. 0 < length (cond b (l ∷ lines_of c lines) (lines_of c lines))) (sym (is_own l.client c (ap (λ (x : CallLine). x.client) (sym is) ∙ own))) (omega arith)
own-more (l ∷ lines) (suc i) c line is lt own = own-of (l.client == c) l (lines_of c (take i lines)) (lines_of c lines) (own-more lines i c line is (omega arith) own)
