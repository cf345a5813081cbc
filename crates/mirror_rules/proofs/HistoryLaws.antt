-- Durability over histories: one sync, and what comes after it.
use Rattle.std.proofs.Common.{ℕ, ◌≤◌, ◌⊎◌, inl, inr, Bool, true, List, refl, subst, arith}
use Rattle.mirror_rules.specs.Tree.{Image, Cell, Store, Seat, In, limit}
use Rattle.mirror_rules.specs.Claims.{Pairs, Every, Nth, HasPages}
use Rattle.mirror_rules.specs.Opening.{Meets, Good, Opens}
use Rattle.mirror_rules.specs.Guards.{Within, Medium, Shows, IsIn, Guards, Placed, Anywhere, in_drawer, live_at}
use Rattle.mirror_rules.specs.Levels.{Near, Level}
use Rattle.mirror_rules.specs.History.{Since_then, Comes, images_at, everywhere, Stage, Closed, Session, Viewing, Stopped, Since, since_found, since_reads, since_writes, since_flushes, since_ends, since_write_stops, since_flush_stops, since_opens, since_refused, since_looks, since_look_reads, since_look_writes, since_look_ends, since_look_stops, since_rests}
use Rattle.mirror_rules.proofs.PageLaws.{flush_keeps, keeps-holds, read-holds}
use Rattle.mirror_rules.proofs.GenLaws.{flush-bound, flush-near, puts-near, looks-near, levels-near}
use Rattle.mirror_rules.proofs.OpenLaws.{state-pages}
use Rattle.mirror_rules.proofs.GivesLaws.{opens-answer}
use Rattle.mirror_rules.proofs.LevelLaws.{states-level}
use Rattle.mirror_rules.proofs.GuardLaws.{guards-less, guards-step, stills-move, puts-still, looks-still, write-stops-still, rises-move, flushes-rise, flush-stops-rise, every-nth, within-or, within-now, guards-found}
use Rattle.mirror_rules.proofs.EntryLaws.{chosen, open-guards, open-joined, opening-end, wins-at, all-most, most-at}
use Rattle.mirror_rules.proofs.ChainLaws.{put-pages, none-in, in-append, images-placed, placed-left, placed-anywhere, comes-sized, comes-settled, comes-past, sync-comers}

-- what guards in a sitting
abbrev pub Guard : Medium → List (List ℕ) → List (ℕ × List ℕ) → List Image → List Image → (ℕ → Bool) → List Seat → Type 0
Guard v F ws past counts sync xs = Guards (Since_then F ws) (λ c. IsIn counts c ⊎ Placed (Shows v) sync xs c) (Anywhere (Shows v) past xs)

-- where a flush may be called
pub record Held (v : Medium) (F : List (List ℕ)) (ws : List (ℕ × List ℕ)) (past counts : List Image) (sync : ℕ → Bool) (g : ℕ) (xs : List Seat) : Type 0 where
  pub bound : g ≤ limit
  pub near : Every (Near v g) xs
  pub pages : List (List ℕ)
  pub have : Every (HasPages pages) xs
  pub within : Within (Since_then F ws) pages
  pub guards : Guard v F ws past counts sync xs

abbrev pub Lasts : Medium → List (List ℕ) → List (ℕ × List ℕ) → Stage → Type 0
Lasts v F ws (Closed past counts) = Guards (Since_then F ws) (λ c. IsIn counts c) (λ b. IsIn past b)
Lasts v F ws (Session past counts sync o g xs) = Held v F ws past counts sync g xs
Lasts v F ws (Viewing past counts sync o xs) = Guard v F ws past counts sync xs
Lasts v F ws (Stopped past counts sync xs) = Guard v F ws past counts sync xs

pub since-lasts : {v : Medium} {n : ℕ} {F : List (List ℕ)} {ws : List (ℕ × List ℕ)} {k : Stage} → Since v n F ws k → Lasts v F ws k
since-lasts {v} {F = F} (since_found {ys = ys} fl l n e p m lo pa) = record {
  bound = (flush-bound fl l).1;
  near = flush-near fl l n;
  pages = F;
  have = keeps-holds (flush_keeps fl) p;
  within = within-now F F refl;
  guards = guards-less (guards-found fl l n e p m lo pa).guards (λ i z. none-in (Placed (Shows v) (live_at ys) ys) i z) (λ b z. z);
}
since-lasts (since_reads h r) = let a = since-lasts h in record { bound = a.bound; near = looks-near r a.near; pages = a.pages; have = read-holds r a.have; within = a.within; guards = guards-step (λ F w. w) a.guards (stills-move (looks-still r)) }
since-lasts {F = F} (since_writes {ws = ws} {p = p} {x = x} h w) =
    let a = since-lasts h in
    let r = put-pages (Since_then F ws) w a.have a.within in
    record { bound = a.bound; near = puts-near w a.near; pages = r.0; have = r.1; within = r.2; guards = guards-step (within-or (Since_then F ws) p x) a.guards (stills-move (puts-still w)) }
since-lasts (since_flushes h fl) =
    let a = since-lasts h in
    record { bound = (flush-bound fl a.bound).1; near = flush-near fl a.bound a.near; pages = a.pages; have = keeps-holds (flush_keeps fl) a.have; within = a.within; guards = guards-step (λ F w. w) a.guards (rises-move a.within (flushes-rise fl a.bound a.near) a.have) }
since-lasts (since_ends h) = (since-lasts h).guards
since-lasts {F = F} (since_write_stops {ws = ws} {p = p} {x = x} h w) = guards-step (within-or (Since_then F ws) p x) (since-lasts h).guards (stills-move (write-stops-still w))
since-lasts (since_flush_stops h st) = let a = since-lasts h in guards-step (λ F w. w) a.guards (rises-move a.within (flush-stops-rise st a.bound a.near) a.have)
since-lasts {v} (since_opens {g = g} {xs = xs} {us = us} h c mk m u o l) =
    let a = since-lasts h in
    let r = opens-answer v o m (comes-sized c) (comes-settled c) in
    let at = wins-at r.0.met r.0.wins in
    let ww = comes-past c at.0 r.0.w at.1 in
    let most = all-most r.0.w.generation xs r.0.reach in
    let cm = sync-comers c mk in record {
      bound = l;
      near = levels-near l (subst (λ k. Every (Level v k) us) r.1 (states-level r.2));
      pages = r.0.w.pages;
      have = state-pages r.2;
      within = (chosen a cm m most ww u).within;
      guards = open-joined a cm m most ww u r.2 (open-guards a cm m (comes-settled c) (opening-end o m (comes-sized c) (comes-settled c)));
    }
since-lasts (since_refused h c mk m e) = open-guards (since-lasts h) (sync-comers c mk) m (comes-settled c) e
since-lasts (since_looks h c mk m o) = open-guards (since-lasts h) (sync-comers c mk) m (comes-settled c) (opening-end o m (comes-sized c) (comes-settled c))
since-lasts (since_look_reads h r) = guards-step (λ F w. w) (since-lasts h) (stills-move (looks-still r))
since-lasts {F = F} (since_look_writes {ws = ws} {p = p} {x = x} h w) = guards-step (within-or (Since_then F ws) p x) (since-lasts h) (stills-move (puts-still w))
since-lasts (since_look_ends h) = since-lasts h
since-lasts {F = F} (since_look_stops {ws = ws} {p = p} {x = x} h w) = guards-step (within-or (Since_then F ws) p x) (since-lasts h) (stills-move (write-stops-still w))
since-lasts {v} (since_rests {past = past} {counts = counts} {sync = sync} {xs = xs} {ts = ts} h m) = guards-less (since-lasts h)
    (λ i z. elim (in-append {i = i} (images_at sync ts) counts z) [ inl k ↦ inr (placed-left m (images-placed sync ts i k)) | inr k ↦ inl k ])
    (λ b z. elim (in-append {i = b} (images_at everywhere ts) past z) as (λ _. Anywhere (Shows v) past xs b) [ inl k ↦ placed-anywhere b (placed-left m (images-placed everywhere ts b k)) | inr k ↦ in_drawer k ])

-- an opening that answers Ok with a disk up that counts gives the pages of the sync, or later ones
pub durable : {v : Medium} {n d : ℕ} {F : List (List ℕ)} {ws : List (ℕ × List ℕ)} {past counts : List Image} {b owed : Bool} {c : Cell} {g : ℕ} {ss : List Store} {xs us : List Seat} → Since v n F ws (Closed past counts) → Every (Comes v n past) ss → Pairs Meets ss xs
    → Opens true n xs (Good owed g) us → Nth d xs (In b c) → IsIn counts c.now → (G : List (List ℕ)) × Every (HasPages G) us × Within (Since_then F ws) G
durable {v} {F = F} {ws = ws} {c = c} {xs = xs} h cm m o nth z =
    let r = opens-answer v o m (comes-sized cm) (comes-settled cm) in
    let at = wins-at r.0.met r.0.wins in
    let l = most-at (every-nth (all-most r.0.w.generation xs r.0.reach) nth) in
    let q = (since-lasts h).below c.now r.0.w z (comes-past cm at.0 r.0.w at.1) in
    (r.0.w.pages, state-pages r.2, elim q as (λ _. Within (Since_then F ws) r.0.w.pages) [ inl k ↦ k | inr k ↦ absurd (omega arith) ])
