-- What is said of stores by what they hold and by their counts is so of any others that hold and count the same.
use Rattle.std.proofs.Common.{◌≡◌, ℕ, true, List, length, refl, sym, ap, subst, ◌∙◌, ◌≤◌, Option}
use Rattle.std.specs.Prelude.{is_some}
use Rattle.spr_io.specs.Content.{Content}
use Rattle.disk_format.specs.declared.shape.ImageShape.{ImageShape}
use Rattle.disk_format.specs.declared.why.BadImage.{BadImage}
use Rattle.stack_accept.specs.Plan.{Plan}
use Rattle.mirror_rules.specs.Tree.{Seat}
use Rattle.mirror_rules.specs.Tree as machine
use Rattle.mirror_rules.specs.Claims.{Pairs, pairs_none, pairs_more, Nth}
use Rattle.mirror_layer.specs.View.{Beside}
use Rattle.mirror_layer.specs.Ground.{Ground}
use Rattle.mirror_layer.specs.Meeting.{IsBadOf}
use Rattle.mirror_layer.specs.Stores.{Finds, Stored, stored, GivesBack}
use Rattle.mirror_layer.specs.Bringing.{Brought, brought, Lies, lies, Seen, OpenedOver, IsBadStore, bad_store, Reasoned, RefusedOver, refused, lacked, lacked_first}
use Rattle.mirror_layer.specs.declared.refuse.Refusal.{Refusal}
use Rattle.mirror_layer.specs.declared.refuse.Refusal.TheVariants as why

-- as many stores, and at each place one that holds and counts the same
pub record Alike {T U : Type 0} (content : T → Option Content) (faults : T → ℕ) (its_content : U → Option Content) (its_faults : U → ℕ) (xs : List T) (ys : List U) : Type 0 where
  pub many : length ys ≡ length xs
  pub each : (k : ℕ) (t : T) → Nth k xs t → (u : U) × Nth k ys u × (its_content u ≡ content t) × (its_faults u ≡ faults t)

finds-alike : {shape : ImageShape} {disk m n : ℕ} {c d : Option Content} {s : machine.Store} → d ≡ c → m ≡ n → Finds shape disk c n s → Finds shape disk d m s
finds-alike {shape = shape} {disk = disk} {m = m} {n = n} {c = c} {s = s} e f h = subst (λ v. Finds shape disk v m s) (sym e) (subst (λ v. Finds shape disk c v s) (sym f) h)

module _ {T U : Type 0} {content : T → Option Content} {faults : T → ℕ} {its_content : U → Option Content} {its_faults : U → ℕ} {xs : List T} {ys : List U} (same : Alike content faults its_content its_faults xs ys) where
  pub brought-alike : {shape : ImageShape} {ns : List ℕ} {ss : List machine.Store} → Pairs (Brought content faults shape xs) ns ss → Pairs (Brought its_content its_faults shape ys) ns ss
  brought-alike pairs_none = pairs_none
  brought-alike (pairs_more {x = n} (brought {t} p f) h) = let at = same.each n t p in pairs_more (brought {t = at.0} at.1 (finds-alike at.2 at.3 f)) (brought-alike h)

  pub lies-alike : {shape : ImageShape} {ns : List ℕ} {bs : List Beside} → Pairs (Lies content faults shape xs) ns bs → Pairs (Lies its_content its_faults shape ys) ns bs
  lies-alike pairs_none = pairs_none
  lies-alike {shape = shape} (pairs_more {x = n} (lies {t} p e) h) =
      let at = same.each n t p in
      let told : is_some (content t) ≡ is_some (its_content at.0) = ap (λ (c : Option Content). is_some c) (sym at.2) in
      let counts : faults t ≡ its_faults at.0 = sym at.3 in
      pairs_more (lies {t = at.0} at.1 (e ∙ (λ i. record { disk = n; shape = shape; there = true; told = told i; opened = counts i }))) (lies-alike h)

  -- what the opening of each disk found
  abbrev pub seen-alike : {shape : ImageShape} {plan : Plan} {beside : List Beside} → Seen content faults shape xs plan beside → Seen its_content its_faults shape ys plan beside
  seen-alike seen = record { stores_seen = seen.stores_seen; row = seen.row; brought = brought-alike seen.brought; lies = lies-alike seen.lies; meets = seen.meets }

  -- an opening
  abbrev pub opened-alike : {shape : ImageShape} {plan : Plan} {g : Ground} → OpenedOver content faults shape xs plan g → OpenedOver its_content its_faults shape ys plan g
  opened-alike o = record { seen = seen-alike o.seen; opens = o.opens; shaped = o.shaped; fair = o.fair; lasting = o.lasting; given = o.given }

  stored-alike : {bs : List Beside} {ss : List machine.Store} → Pairs (Stored content faults xs) bs ss → Pairs (Stored its_content its_faults ys) bs ss
  stored-alike pairs_none = pairs_none
  stored-alike (pairs_more {x = b} (stored {t} p f told later) h) =
      let at = same.each b.disk t p in
      pairs_more (stored {t = at.0} at.1 (finds-alike at.2 at.3 f) (ap (λ (c : Option Content). is_some c) at.2 ∙ told) (subst (λ n. b.opened ≤ n) (sym at.3) later)) (stored-alike h)

  -- a closing
  pub back-alike : {bs : List Beside} {row : List Seat} → GivesBack content faults bs row xs → GivesBack its_content its_faults bs row ys
  back-alike b = record { many = same.many ∙ b.many; seen = b.seen; stored = stored-alike b.stored; left = b.left }

  bad-alike : {shape : ImageShape} {disk : ℕ} {bad : BadImage} → IsBadStore content shape xs disk bad → IsBadStore its_content shape ys disk bad
  bad-alike {shape = shape} {disk = disk} {bad = bad} (bad_store {t} p r) = let at = same.each disk t p in bad_store {t = at.0} at.1 (subst (λ c. IsBadOf shape c bad) (sym at.2) r)

  reason-alike : (shape : ImageShape) (reason : Refusal) → Reasoned content shape xs reason → Reasoned its_content shape ys reason
  reason-alike shape (why.BadImage disk bad) r = bad-alike r
  reason-alike shape (why.StoreFault fault) r = tt
  reason-alike shape why.Memory r = tt

-- a refusal: where the stores go back as they came, so do the others
pub refused-alike : {T U : Type 0} {content : T → Option Content} {faults : T → ℕ} {its_content : U → Option Content} {its_faults : U → ℕ} {xs after : List T} {ys its_after : List U} {shape : ImageShape} {plan : Plan} {reason : Refusal}
    → Alike content faults its_content its_faults xs ys → Alike content faults its_content its_faults after its_after → (after ≡ xs → its_after ≡ ys) → RefusedOver content faults shape xs plan reason after → RefusedOver its_content its_faults shape ys plan reason its_after
refused-alike {shape = shape} {reason = reason} old new same (refused seen opens says reasoned blames lasting back) =
    refused {reason = reason} (seen-alike old seen) opens says (reason-alike old shape reason reasoned) blames lasting (back-alike new back)
refused-alike old new same (lacked b l rests back) = lacked (brought-alike old b) (lies-alike old l) rests (back-alike new back)
refused-alike {its_content = its_content} {its_faults = its_faults} {ys = ys} {shape = shape} {plan = plan} old new same lacked_first =
    subst (λ zs. RefusedOver its_content its_faults shape ys plan why.Memory zs) (sym (same refl)) lacked_first
