-- Rights as two sets of bits.
use Rattle.std.specs.Prelude.{nat_eq, IsTrue, ◌↔◌}
use Rattle.std.proofs.Common.{◌≡◌, ◌≢◌, ℕ, ◌+◌, ◌*◌, ◌^◌, ◌%◌, ◌<◌, ◌⊎◌, inl, inr, sym, ◌∙◌, ap, subst, refl, arith, rules, List, get_or}
use Rattle.std.proofs.Math.Path.{fun_ext}
use Rattle.std.specs.Int.{bit_at, bit_not, w32}
use Rattle.std.specs.Int.RustNames.{bit_or, bit_and}
use Rattle.std.proofs.lemmas.Bool.{eq-eqb, cases_lt}
use Rattle.std.proofs.lemmas.Bool.Decides.{eqb_tells}
use Rattle.std.proofs.lemmas.Nat.{and_le_l}
use Rattle.std.proofs.lemmas.Nat.Bits.{bit_at-zero, bit_at-lt, bit_at_above, same_from_bits, bit_at_set_same, bit_at_set_other, bit_at_clear_same, bit_at_clear_other}
use Rattle.tower_core.specs.declared.right.Right.{Right}
use Rattle.tower_core.specs.Column.{updated}
use Rattle.tower_core.proofs.StepLaw.{updated-same, updated-other}
use Rattle.page_messages.specs.declared.kids.Kids.{Kids}
use Rattle.page_messages.specs.Masks.{IsIn, With, Without, IsAmong}
use Rattle.page_messages.specs.Kids.{right_in, kid_in}

pub same_or_not : (a b : ℕ) → (a ≡ b) ⊎ (a ≢ b)
same_or_not a b = elim (eqb_tells a b) [ inl e ↦ inl e.1 | inr d ↦ inr d.1 ]

pub with_is : (mask node : ℕ) → node < 32 → With mask node (bit_or mask (1 * 2 ^ node % 2 ^ 32))
with_is mask node h = record { same = bit_at_set_same w32 mask node h; others = λ i d. bit_at_set_other w32 mask node h i d }

pub without_is : (mask node : ℕ) → mask < 2 ^ 32 → node < 32 → Without mask node (bit_and mask (bit_not w32 (1 * 2 ^ node % 2 ^ 32)))
without_is mask node fits h = record {
  same = bit_at_clear_same w32 mask node h;
  others = λ i d. elim (cases_lt i 32) [
    | inl lt ↦ bit_at_clear_other w32 mask node h i lt d
    | inr le ↦ bit_at_above (bit_and mask (bit_not w32 (1 * 2 ^ node % 2 ^ 32))) 32 i (let a = and_le_l mask (bit_not w32 (1 * 2 ^ node % 2 ^ 32)) in omega (arith, a, fits)) le ∙ sym (bit_at_above mask 32 i fits le)
  ];
}

zero_is : (mask : ℕ) → ((i : ℕ) → bit_at mask i ≡ 0) → mask ≡ 0
zero_is mask h = same_from_bits mask 0 (λ i. h i ∙ sym (bit_at-zero i))

zero_bits : (mask : ℕ) → mask ≡ 0 → (i : ℕ) → bit_at mask i ≡ 0
zero_bits mask e i = ap (λ (m : ℕ). bit_at m i) e ∙ bit_at-zero i

not_one : (n : ℕ) → n < 2 → n ≢ 1 → n ≡ 0
not_one n lt d = omega (arith, lt, d)

-- the tests of a child's right
kid_write : (w r : ℕ) → w ≡ 1 → kid_in w r ≡ Right.Write
kid_write w r e = rw (eq-eqb w 1 e) refl

kid_read : (w r : ℕ) → w ≢ 1 → r ≡ 1 → kid_in w r ≡ Right.Read
kid_read w r d e = elim (eqb_tells w 1) [ inl t ↦ absurd (d t.1) | inr n ↦ rw (n.0, eq-eqb r 1 e) refl ]

kid_nothing : (w r : ℕ) → w ≢ 1 → r ≢ 1 → kid_in w r ≡ Right.Nothing
kid_nothing w r d f = elim (eqb_tells w 1) [ inl t ↦ absurd (d t.1) | inr n ↦ elim (eqb_tells r 1) [ inl t ↦ absurd (f t.1) | inr m ↦ rw (n.0, m.0) refl ] ]

write_read : Right.Write ≢ Right.Read
write_read x = cc

write_nothing : Right.Write ≢ Right.Nothing
write_nothing x = cc

read_write : Right.Read ≢ Right.Write
read_write x = cc

read_nothing : Right.Read ≢ Right.Nothing
read_nothing x = cc

nothing_write : Right.Nothing ≢ Right.Write
nothing_write x = cc

zero_not_one : (n : ℕ) → n ≡ 0 → n ≢ 1
zero_not_one n e f = absurd (omega (arith, e, f))

not_kid_write : (w r : ℕ) → w ≡ 0 → kid_in w r ≢ Right.Write
not_kid_write w r e x = elim (eqb_tells r 1) [
  | inl t ↦ read_write (sym (kid_read w r (zero_not_one w e) t.1) ∙ x)
  | inr n ↦ nothing_write (sym (kid_nothing w r (zero_not_one w e) n.1) ∙ x)
]

bits_nothing : (w r : ℕ) → kid_in w r ≡ Right.Nothing → (w ≢ 1) × (r ≢ 1)
bits_nothing w r e =
    let a : w ≢ 1 = λ t. write_nothing (sym (kid_write w r t) ∙ e) in
    (a, λ t. read_nothing (sym (kid_read w r a t) ∙ e))

pub zero_test : (n : ℕ) → IsTrue (nat_eq n 0) → n ≡ 0
zero_test n t = search rules

pub test_zero : (n : ℕ) → n ≡ 0 → IsTrue (nat_eq n 0)
test_zero n e = search rules

pub none_writes : (k : Kids) → k.writers ≡ 0 → (c : ℕ) → right_in k c ≢ Right.Write
none_writes k e c = not_kid_write (bit_at k.writers c) (bit_at k.readers c) (zero_bits k.writers e c)

pub writers_zero : (k : Kids) → ((c : ℕ) → right_in k c ≢ Right.Write) → k.writers ≡ 0
writers_zero k h = zero_is k.writers (λ i. not_one (bit_at k.writers i) (bit_at-lt k.writers i) (λ t. h i (kid_write (bit_at k.writers i) (bit_at k.readers i) t)))

pub none_holds : (k : Kids) → k.writers ≡ 0 → k.readers ≡ 0 → (c : ℕ) → right_in k c ≡ Right.Nothing
none_holds k e f c = kid_nothing (bit_at k.writers c) (bit_at k.readers c) (zero_not_one _ (zero_bits k.writers e c)) (zero_not_one _ (zero_bits k.readers f c))

pub both_zero : (k : Kids) → ((c : ℕ) → right_in k c ≡ Right.Nothing) → (k.writers ≡ 0) × (k.readers ≡ 0)
both_zero k h = (
  zero_is k.writers (λ i. not_one (bit_at k.writers i) (bit_at-lt k.writers i) (bits_nothing (bit_at k.writers i) (bit_at k.readers i) (h i)).0),
  zero_is k.readers (λ i. not_one (bit_at k.readers i) (bit_at-lt k.readers i) (bits_nothing (bit_at k.writers i) (bit_at k.readers i) (h i)).1),
)

pub no_other : (k : Kids) (child w r : ℕ) → Without k.writers child w → Without k.readers child r → w ≡ 0 → r ≡ 0 → (c : ℕ) → c ≢ child → right_in k c ≡ Right.Nothing
no_other k child w r a b e f c d =
    kid_nothing (bit_at k.writers c) (bit_at k.readers c)
    (zero_not_one _ (sym (a.others c d) ∙ zero_bits w e c))
    (zero_not_one _ (sym (b.others c d) ∙ zero_bits r f c))

others_zero : (mask child n : ℕ) → Without mask child n → ((c : ℕ) → c ≢ child → bit_at mask c ≢ 1) → n ≡ 0
others_zero mask child n a h = zero_is n (λ i. elim (same_or_not i child) [
  | inl e ↦ ap (bit_at n) e ∙ a.same
  | inr d ↦ a.others i d ∙ not_one (bit_at mask i) (bit_at-lt mask i) (h i d)
])

pub other_writers : (k : Kids) (child w : ℕ) → Without k.writers child w → ((c : ℕ) → c ≢ child → right_in k c ≡ Right.Nothing) → w ≡ 0
other_writers k child w a h = others_zero k.writers child w a (λ c d. (bits_nothing (bit_at k.writers c) (bit_at k.readers c) (h c d)).0)

pub other_readers : (k : Kids) (child r : ℕ) → Without k.readers child r → ((c : ℕ) → c ≢ child → right_in k c ≡ Right.Nothing) → r ≡ 0
other_readers k child r a h = others_zero k.readers child r a (λ c d. (bits_nothing (bit_at k.writers c) (bit_at k.readers c) (h c d)).1)

-- a child's right is set
set_is : (old new : Kids) (child : ℕ) (right : Right) → right_in new child ≡ right → ((c : ℕ) → c ≢ child → right_in new c ≡ right_in old c) → right_in new ≡ updated (right_in old) child right
set_is old new child right here others = fun_ext (λ c. elim (same_or_not c child) [
  | inl e ↦ ap (right_in new) e ∙ here ∙ sym (ap (updated (right_in old) child right) e ∙ updated-same (right_in old) child right)
  | inr d ↦ others c d ∙ sym (updated-other (right_in old) child right c d)
])

same_kid : (w r w' r' : ℕ) → w' ≡ w → r' ≡ r → kid_in w' r' ≡ kid_in w r
same_kid w r w' r' e f = ap (λ (x : ℕ). kid_in x r') e ∙ ap (kid_in w) f

pub set_nothing : (old new : Kids) (child : ℕ) → Without old.writers child new.writers → Without old.readers child new.readers → right_in new ≡ updated (right_in old) child Right.Nothing
set_nothing old new child a b = set_is old new child Right.Nothing
    (kid_nothing (bit_at new.writers child) (bit_at new.readers child) (zero_not_one _ a.same) (zero_not_one _ b.same))
    (λ c d. same_kid _ _ _ _ (a.others c d) (b.others c d))

pub set_read : (old new : Kids) (child : ℕ) → Without old.writers child new.writers → With old.readers child new.readers → right_in new ≡ updated (right_in old) child Right.Read
set_read old new child a b = set_is old new child Right.Read
    (kid_read (bit_at new.writers child) (bit_at new.readers child) (zero_not_one _ a.same) b.same)
    (λ c d. same_kid _ _ _ _ (a.others c d) (b.others c d))

pub set_write : (old new : Kids) (child : ℕ) → With old.writers child new.writers → Without old.readers child new.readers → right_in new ≡ updated (right_in old) child Right.Write
set_write old new child a b = set_is old new child Right.Write
    (kid_write (bit_at new.writers child) (bit_at new.readers child) a.same)
    (λ c d. same_kid _ _ _ _ (a.others c d) (b.others c d))

-- the empty set, and a set with one node more
pub none_among : (xs : List ℕ) (n : ℕ) → IsIn 0 n ↔ IsAmong xs 0 n
none_among xs n = (λ h. absurd (let z : bit_at 0 n ≡ 0 = bit_at-zero n in omega (arith, h.1, z)), λ h. absurd (omega (arith, h.1)))

pub one_more : (xs : List ℕ) (i old new : ℕ) → With old (get_or xs i 0) new → get_or xs i 0 < 32 → ((n : ℕ) → IsIn old n ↔ IsAmong xs i n) → (n : ℕ) → IsIn new n ↔ IsAmong xs (i + 1) n
one_more xs i old new w low before n = (there, back)
  where
    there : IsIn new n → IsAmong xs (i + 1) n
    there h = elim (same_or_not n (get_or xs i 0)) [
      | inl e ↦ (i, omega arith, sym e)
      | inr d ↦ let k = (before n).0 (h.0, sym (w.others n d) ∙ h.1) in (k.0, omega (arith, k.1), k.2)
    ]

    back : IsAmong xs (i + 1) n → IsIn new n
    back h = elim (same_or_not n (get_or xs i 0)) [
      | inl e ↦ (subst (λ (m : ℕ). m < 32) (sym e) low, ap (bit_at new) e ∙ w.same)
      | inr d ↦
          let earlier : h.0 < i = omega (arith, h.1, (let ne : h.0 ≢ i = λ e. d (sym h.2 ∙ ap (λ (m : ℕ). get_or xs m 0) e) in ne)) in
          let k = (before n).1 (h.0, earlier, h.2) in (k.0, w.others n d ∙ k.1)
    ]
