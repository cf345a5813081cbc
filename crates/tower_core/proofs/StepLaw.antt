-- The law of one step on one column: a step of the table keeps a column coherent.
use Rattle.std.proofs.Common.{◌≡◌, ◌≢◌, ℕ, ◌+◌, ◌<◌, ◌≤◌, sym, ◌∙◌, ap, subst, refl, arith, true, false, eqb}
use Rattle.std.proofs.lemmas.Bool.{eq-eqb}
use Rattle.std.proofs.lemmas.Bool.Decides.{nat_tests}
use Rattle.tower_core.specs.declared.right.Right.{Right}
use Rattle.tower_core.specs.TreeShape.{TreeShape, parent, nodes, IsUpper, IsChild, IsTree}
use Rattle.tower_core.specs.declared.step.Step.{Step}
use Rattle.tower_core.specs.declared.step.Step.TheVariants.{Untouched, Reads, Writes, Grants, PagesOut, Denies, Pushes, Flushes, Deletes}
use Rattle.tower_core.specs.Column.{Column, updated, given, granted_at, strength, IsCoherent, MayStep, NoChildWrites, NoChildHolds, NoSiblingHolds, IsStepOf, column_after}
use Rattle.tower_core.proofs.Ranks.{Upper, Child, Coherent, Sets, Hands, keeps_quiet, keeps_write, keeps_grant_read, keeps_grant_write, keeps_push, keeps_deny, keeps_give, zero_write, zero_grant, zero_push, zero_give}

-- rights as numbers, and back

is_write : (r : Right) → 2 ≤ strength r → r ≡ Right.Write
is_write Right.Nothing h = absurd (omega arith)
is_write Right.Read h = absurd (omega arith)
is_write Right.Write h = refl

is_read : (r : Right) → strength r ≡ 1 → r ≡ Right.Read
is_read Right.Nothing h = absurd (omega (arith, h))
is_read Right.Read h = refl
is_read Right.Write h = absurd (omega (arith, h))

is_nothing : (r : Right) → strength r ≡ 0 → r ≡ Right.Nothing
is_nothing Right.Nothing h = refl
is_nothing Right.Read h = absurd (omega (arith, h))
is_nothing Right.Write h = absurd (omega (arith, h))

is_some : (r : Right) → r ≢ Right.Nothing → 0 < strength r
is_some Right.Nothing h = absurd (h refl)
is_some Right.Read h = omega arith
is_some Right.Write h = omega arith

no_write : (r : Right) → r ≢ Right.Write → strength r < 2
no_write Right.Nothing h = omega arith
no_write Right.Read h = omega arith
no_write Right.Write h = absurd (h refl)

not_nothing : (r : Right) → 0 < strength r → r ≢ Right.Nothing
not_nothing r h e = absurd (omega (arith, h, ap strength e))

not_write : (r : Right) → strength r < 2 → r ≢ Right.Write
not_write r h e = absurd (omega (arith, h, ap strength e))

-- one column as numbers

abbrev strengths : Column → ℕ → ℕ
strengths col node = strength (col.right node)

abbrev IsCoherentByNumbers : TreeShape → ℕ → Column → Type 0
IsCoherentByNumbers shape len col = Coherent (nodes shape) (parent shape) (strengths col) col.at col.newest len

upper_of : (shape : TreeShape) (m : ℕ) → Upper (nodes shape) m → IsUpper shape m
upper_of shape m um = record { above = um.above; inside = um.inside }

of_upper : (shape : TreeShape) (m : ℕ) → IsUpper shape m → Upper (nodes shape) m
of_upper shape m um = record { above = um.above; inside = um.inside }

child_of : (shape : TreeShape) (c m : ℕ) → Child (nodes shape) (parent shape) c m → IsChild shape c m
child_of shape c m ic = record { upper = upper_of shape c ic.upper; hangs = ic.hangs }

of_child : (shape : TreeShape) (c m : ℕ) → IsChild shape c m → Child (nodes shape) (parent shape) c m
of_child shape c m ic = record { upper = of_upper shape c ic.upper; hangs = ic.hangs }

by_numbers : (shape : TreeShape) (len : ℕ) (col : Column) → IsCoherent shape len col → IsCoherentByNumbers shape len col
by_numbers shape len col coh = record {
  capped = λ m um. coh.capped m (upper_of shape m um);
  alone = λ m s um us e d r. ap strength (coh.alone m (upper_of shape m um) (is_write (col.right m) r) s (record { upper = upper_of shape s us; hangs = e }) d);
  reading = λ m um r. coh.reading m (upper_of shape m um) (is_read (col.right m) r);
  writing = λ m um r. coh.writing m (upper_of shape m um) (is_write (col.right m) r);
  current = λ m mN r h. coh.current m mN (not_nothing (col.right m) r) (λ c ic. not_write (col.right c) (h c (of_child shape c m ic)));
  placed = λ m mN. coh.placed m mN;
}

of_numbers : (shape : TreeShape) (len : ℕ) (col : Column) → IsCoherentByNumbers shape len col → IsCoherent shape len col
of_numbers shape len col coh = record {
  capped = λ m um. coh.capped m (of_upper shape m um);
  alone = λ m um r s ic d. is_nothing (col.right s) (coh.alone m s (of_upper shape m um) (of_upper shape s ic.upper) ic.hangs d (omega (arith, ap strength r)));
  reading = λ m um r. coh.reading m (of_upper shape m um) (ap strength r);
  writing = λ m um r. coh.writing m (of_upper shape m um) (omega (arith, ap strength r));
  current = λ m mN r h. coh.current m mN (is_some (col.right m) r) (λ c ic. no_write (col.right c) (h c (child_of shape c m ic)));
  placed = λ m mN. coh.placed m mN;
}

-- tables with one other value

neq-eqb : (a b : ℕ) → a ≢ b → eqb a b ≡ false
neq-eqb a b d = grind (arith, nat_tests)

pub updated-same : {A : Type 0} (f : ℕ → A) (k : ℕ) (v : A) → updated f k v k ≡ v
updated-same f k v = rw (eq-eqb k k refl) refl

pub updated-other : {A : Type 0} (f : ℕ → A) (k : ℕ) (v : A) (m : ℕ) → m ≢ k → updated f k v m ≡ f m
updated-other f k v m d = rw (neq-eqb m k d) refl

sets : (f : ℕ → ℕ) (k v : ℕ) → Sets f (updated f k v) k v
sets f k v = record { same = updated-same f k v; others = updated-other f k v }

sets_right : (f : ℕ → Right) (k : ℕ) (v : Right) → Sets (λ m. strength (f m)) (λ m. strength (updated f k v m)) k (strength v)
sets_right f k v = record { same = ap strength (updated-same f k v); others = λ m d. ap strength (updated-other f k v m d) }

-- a node's bytes go to its parent, whose number is another
hands : (shape : TreeShape) (col : Column) (n : ℕ) → parent shape n < n → Hands col.at (given shape col n) n (parent shape n) (col.at n)
hands shape col n below = record {
  node = updated-other col.at (parent shape n) (col.at n) n (omega arith);
  above = updated-same col.at (parent shape n) (col.at n);
  others = λ m d dq. updated-other col.at (parent shape n) (col.at n) m dq;
}

-- the same, and the node then has no copy
hands_away : (shape : TreeShape) (col : Column) (n : ℕ) → parent shape n < n → Hands col.at (updated (given shape col n) n 0) n (parent shape n) 0
hands_away shape col n below = record {
  node = updated-same (given shape col n) n 0;
  above = updated-other (given shape col n) n 0 (parent shape n) (omega arith) ∙ updated-same col.at (parent shape n) (col.at n);
  others = λ m d dq. updated-other (given shape col n) n 0 m d ∙ updated-other col.at (parent shape n) (col.at n) m dq;
}

-- a copy for reading goes away: its parent's shows the same already
drops : (shape : TreeShape) (col : Column) (n : ℕ) → parent shape n < n → col.at n ≡ col.at (parent shape n) → Hands col.at (updated col.at n 0) n (parent shape n) 0
drops shape col n below same = record {
  node = updated-same col.at n 0;
  above = updated-other col.at n 0 (parent shape n) (omega arith) ∙ sym same;
  others = λ m d dq. updated-other col.at n 0 m d;
}

-- the parents' order, by numbers
parents_below : (shape : TreeShape) → IsTree shape → (m : ℕ) → Upper (nodes shape) m → parent shape m < m
parents_below shape tree m um = tree.ordered m (upper_of shape m um)

-- the premises of a step, by numbers

no_holder : (shape : TreeShape) (col : Column) (n : ℕ) → NoChildHolds shape col n → (c : ℕ) → Child (nodes shape) (parent shape) c n → strengths col c ≡ 0
no_holder shape col n none c ic = ap strength (none c (child_of shape c n ic))

no_writer : (shape : TreeShape) (col : Column) (n : ℕ) → NoChildWrites shape col n → (c : ℕ) → Child (nodes shape) (parent shape) c n → strengths col c < 2
no_writer shape col n none c ic = no_write (col.right c) (none c (child_of shape c n ic))

no_sibling : (shape : TreeShape) (col : Column) (n : ℕ) → NoSiblingHolds shape col n → (c : ℕ) → Child (nodes shape) (parent shape) c (parent shape n) → c ≢ n → strengths col c ≡ 0
no_sibling shape col n none c ic d = ap strength (none c (child_of shape c (parent shape n) ic) d)

-- what a granted node shows
fresh_at : (shape : TreeShape) (col : Column) (n : ℕ) (r : Right) → strength r ≡ 0 → granted_at shape col n r ≡ col.at (parent shape n)
fresh_at shape col n Right.Nothing h = refl
fresh_at shape col n Right.Read h = absurd (omega (arith, h))
fresh_at shape col n Right.Write h = absurd (omega (arith, h))

held_at : (shape : TreeShape) (col : Column) (n : ℕ) (r : Right) → strength r ≡ 1 → granted_at shape col n r ≡ col.at n
held_at shape col n Right.Nothing h = absurd (omega (arith, h))
held_at shape col n Right.Read h = refl
held_at shape col n Right.Write h = refl

-- THE LAW OF ONE STEP: whatever the column, a step of the table keeps it coherent, and so does an event that does not touch it
pub keeps : (shape : TreeShape) (len : ℕ) (col : Column) (step : Step) → IsTree shape → IsStepOf shape step → IsCoherent shape len col → MayStep shape col step → IsCoherent shape (len + 1) (column_after shape len col step)
keeps shape len col Untouched tree un coh may =
    of_numbers shape (len + 1) (column_after shape len col Untouched) (keeps_quiet _ _ _ _ _ _ (parents_below shape tree) (by_numbers shape len col coh))
keeps shape len col (Reads n) tree un coh may =
    of_numbers shape (len + 1) (column_after shape len col (Reads n)) (keeps_quiet _ _ _ _ _ _ (parents_below shape tree) (by_numbers shape len col coh))
keeps shape len col (Writes n) tree un coh may =
    of_numbers shape (len + 1) (column_after shape len col (Writes n))
    (keeps_write _ _ _ _ _ _ (parents_below shape tree) (by_numbers shape len col coh) _ n (of_upper shape n un)
    (sets col.at n (len + 1)) (ap strength may.0) (no_holder shape col n may.1))
keeps shape len col (Grants n false) tree un coh may =
    of_numbers shape (len + 1) (column_after shape len col (Grants n false))
    (keeps_grant_read _ _ _ _ _ _ (parents_below shape tree) (by_numbers shape len col coh) _ _ n (of_upper shape n un)
    (sets_right col.right n Right.Read) (subst (λ v. Sets col.at (updated col.at n v) n (col.at (parent shape n))) (sym (fresh_at shape col n (col.right n) (ap strength may.0))) (sets col.at n (col.at (parent shape n))))
    (ap strength may.0) (is_some (col.right (parent shape n)) may.1) (no_writer shape col (parent shape n) may.2))
keeps shape len col (Grants n true) tree un coh may =
    of_numbers shape (len + 1) (column_after shape len col (Grants n true))
    (keeps_grant_write _ _ _ _ _ _ (parents_below shape tree) (by_numbers shape len col coh) _ _ n (granted_at shape col n (col.right n)) (of_upper shape n un)
    (sets_right col.right n Right.Write) (sets col.at n (granted_at shape col n (col.right n)))
    (fresh_at shape col n (col.right n)) (held_at shape col n (col.right n))
    (no_write (col.right n) may.0) (ap strength may.1) (no_sibling shape col n may.2))
keeps shape len col (PagesOut n) tree un coh may =
    of_numbers shape (len + 1) (column_after shape len col (PagesOut n))
    (keeps_give _ _ _ _ _ _ (parents_below shape tree) (by_numbers shape len col coh) _ _ n (of_upper shape n un)
    (sets_right col.right n Right.Nothing) (hands_away shape col n (tree.ordered n un))
    (is_some (col.right n) may.0) (no_holder shape col n may.1))
keeps shape len col (Denies n) tree un coh may =
    of_numbers shape (len + 1) (column_after shape len col (Denies n))
    (keeps_deny _ _ _ _ _ _ (parents_below shape tree) (by_numbers shape len col coh) _ _ n (of_upper shape n un)
    (sets_right col.right n Right.Read) (hands shape col n (tree.ordered n un))
    (ap strength may.0) (no_writer shape col n may.1))
keeps shape len col (Pushes n) tree un coh may =
    of_numbers shape (len + 1) (column_after shape len col (Pushes n))
    (keeps_push _ _ _ _ _ _ (parents_below shape tree) (by_numbers shape len col coh) _ n (of_upper shape n un)
    (hands shape col n (tree.ordered n un)) (ap strength may))
keeps shape len col (Flushes n) tree un coh may =
    of_numbers shape (len + 1) (column_after shape len col (Flushes n))
    (keeps_give _ _ _ _ _ _ (parents_below shape tree) (by_numbers shape len col coh) _ _ n (of_upper shape n un)
    (sets_right col.right n Right.Nothing) (hands_away shape col n (tree.ordered n un))
    (omega (arith, ap strength may.0)) (no_holder shape col n may.1))
keeps shape len col (Deletes n) tree un coh may =
    of_numbers shape (len + 1) (column_after shape len col (Deletes n))
    (keeps_give _ _ _ _ _ _ (parents_below shape tree) (by_numbers shape len col coh) _ _ n (of_upper shape n un)
    (sets_right col.right n Right.Nothing) (drops shape col n (tree.ordered n un) (coh.reading n un may.0))
    (omega (arith, ap strength may.0)) (no_holder shape col n may.1))

-- where a node has Nothing its place is 0

abbrev pub IsZeroWithout : TreeShape → Column → Type 0
IsZeroWithout shape col = (node : ℕ) → IsUpper shape node → col.right node ≡ Right.Nothing → col.at node ≡ 0

zero_numbers : (shape : TreeShape) (col : Column) → IsZeroWithout shape col → (m : ℕ) → Upper (nodes shape) m → strengths col m ≡ 0 → col.at m ≡ 0
zero_numbers shape col zeros m um e = zeros m (upper_of shape m um) (is_nothing (col.right m) e)

sets_itself : (f : ℕ → ℕ) (k : ℕ) → Sets f f k (f k)
sets_itself f k = record { same = refl; others = λ m d. refl }

pub keeps_zero : (shape : TreeShape) (len : ℕ) (col : Column) (step : Step) → IsTree shape → IsStepOf shape step → IsCoherent shape len col → MayStep shape col step → IsZeroWithout shape col → IsZeroWithout shape (column_after shape len col step)
keeps_zero shape len col Untouched tree un coh may zeros = zeros
keeps_zero shape len col (Reads n) tree un coh may zeros = zeros
keeps_zero shape len col (Writes n) tree un coh may zeros = λ m um e.
    zero_write _ _ _ _ _ _ (parents_below shape tree) (by_numbers shape len col coh) (zero_numbers shape col zeros) _ n (len + 1) (of_upper shape n un)
    (sets col.at n (len + 1)) (omega (arith, ap strength may.0)) m (of_upper shape m um) (ap strength e)
keeps_zero shape len col (Grants n true) tree un coh may zeros = λ m um e.
    zero_grant _ _ _ _ _ _ (parents_below shape tree) (by_numbers shape len col coh) (zero_numbers shape col zeros) _ _ n 2 (granted_at shape col n (col.right n)) (of_upper shape n un)
    (sets_right col.right n Right.Write) (sets col.at n (granted_at shape col n (col.right n))) (omega arith) m (of_upper shape m um) (ap strength e)
keeps_zero shape len col (Grants n false) tree un coh may zeros = λ m um e.
    zero_grant _ _ _ _ _ _ (parents_below shape tree) (by_numbers shape len col coh) (zero_numbers shape col zeros) _ _ n 1 (granted_at shape col n (col.right n)) (of_upper shape n un)
    (sets_right col.right n Right.Read) (sets col.at n (granted_at shape col n (col.right n))) (omega arith) m (of_upper shape m um) (ap strength e)
keeps_zero shape len col (PagesOut n) tree un coh may zeros = λ m um e.
    zero_give _ _ _ _ _ _ (parents_below shape tree) (by_numbers shape len col coh) (zero_numbers shape col zeros) _ _ n (of_upper shape n un)
    (sets_right col.right n Right.Nothing) (hands_away shape col n (tree.ordered n un)) (is_some (col.right n) may.0) m (of_upper shape m um) (ap strength e)
keeps_zero shape len col (Denies n) tree un coh may zeros = λ m um e.
    zero_push _ _ _ _ _ _ (parents_below shape tree) (by_numbers shape len col coh) (zero_numbers shape col zeros) _ _ n 1 (of_upper shape n un)
    (sets_right col.right n Right.Read) (hands shape col n (tree.ordered n un)) (omega (arith, ap strength may.0)) (omega arith) m (of_upper shape m um) (ap strength e)
keeps_zero shape len col (Pushes n) tree un coh may zeros = λ m um e.
    zero_push _ _ _ _ _ _ (parents_below shape tree) (by_numbers shape len col coh) (zero_numbers shape col zeros) _ _ n (strengths col n) (of_upper shape n un)
    (sets_itself (strengths col) n) (hands shape col n (tree.ordered n un)) (omega (arith, ap strength may)) (omega (arith, ap strength may)) m (of_upper shape m um) (ap strength e)
keeps_zero shape len col (Flushes n) tree un coh may zeros = λ m um e.
    zero_give _ _ _ _ _ _ (parents_below shape tree) (by_numbers shape len col coh) (zero_numbers shape col zeros) _ _ n (of_upper shape n un)
    (sets_right col.right n Right.Nothing) (hands_away shape col n (tree.ordered n un)) (omega (arith, ap strength may.0)) m (of_upper shape m um) (ap strength e)
keeps_zero shape len col (Deletes n) tree un coh may zeros = λ m um e.
    zero_give _ _ _ _ _ _ (parents_below shape tree) (by_numbers shape len col coh) (zero_numbers shape col zeros) _ _ n (of_upper shape n un)
    (sets_right col.right n Right.Nothing) (drops shape col n (tree.ordered n un) (coh.reading n un may.0)) (omega (arith, ap strength may.0)) m (of_upper shape m um) (ap strength e)
