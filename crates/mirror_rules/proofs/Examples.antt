-- Worked histories of a mirror of two disks, d and e. Their images have two pages of one byte.
use Rattle.std.proofs.Common.{◌≢◌, ℕ, zero, suc, Bool, true, false, List, [], ◌∷◌, length, Some, None, refl, sym, ap, lit<, lit≤}
use Rattle.mirror_rules.specs.Tree.{Image, Cell, Store, Blank, Bad, Seat, In, Out, Tree, Leaf, Mirror, seats, stores}
use Rattle.mirror_rules.specs.Claims.{Pairs, pairs_none, pairs_more, Every, every_none, every_more, has_here, has_later, nth_here, nth_later, HasPages, pages_live, pages_left}
use Rattle.mirror_rules.specs.Steps.{Done, write_taken, raise_taken, refused, pass_taken, pass_refused, pass_both, pass_right, pass_right_only, read_taken, read_left, read_right_only, raised_whole, pays_twice, Flushes, flush_owed, Puts, put_whole, put_lost}
use Rattle.mirror_rules.specs.Opening.{Meets, meets_good, meets_blank, meets_bad, most_in, wins_here, wins_later, wins_out, only_here, only_later, copy_same, copy_differs, copy_even, copy_settled, passed_live, passed_out, enter_end, enter_next, enter_joins, fill_end, fill_next, renew_end, renew_next, renew_made, filled_in, filled_bad, Good, Opens, open_good}
use Rattle.mirror_rules.specs.Guards.{Within, Direct, stands, shows_now, at_place, leaves, live_at}
use Rattle.mirror_rules.specs.History.{Since_then, NoSync, Synced, Rests, Runs, Comes, Count, up, either, Chain, chain_starts, chain_runs, run_writes, run_flushes, run_syncs, run_ends, chain_rests}
use Rattle.mirror_rules.proofs.RoundLaws.{passes-round, reads-look}
use Rattle.mirror_rules.proofs.GenLaws.{some-same}
use Rattle.mirror_rules.proofs.ChainLaws.{chain-lasts}

abbrev image : ℕ → ℕ → ℕ → Image
image g x y = record { generation = g; pages = (x ∷ []) ∷ (y ∷ []) ∷ [] }

-- a disk that has one image and keeps one
abbrev cell : ℕ → Image → Image → ℕ → Cell
cell disk now kept faults = record { disk = disk; now = now; kept = Some kept; faults = faults }

abbrev store : ℕ → Image → ℕ → Store
store disk i faults = record { disk = disk; image = Some i; kept = Some i; blank = false; faults = faults }

-- a store with no image, and whether its block 0 is all zeros
abbrev none : ℕ → Bool → Store
none disk blank = record { disk = disk; image = None; kept = None; blank = blank; faults = 0 }

abbrev two : Seat → Seat → Tree
two d e = Mirror (Leaf d) (Leaf e)

zero-two : ◌≢◌ {A = List ℕ} (0 ∷ []) (2 ∷ [])
zero-two e = cc

-- a disk that fails its write of the second page, which is not synced yet. Both disks are fresh
abbrev fresh : Image
fresh = image 1 0 0

abbrev fresh-stores : List Store
fresh-stores = store 0 fresh 0 ∷ store 1 fresh 0 ∷ []

abbrev fresh-found : Tree
fresh-found = two (In false (cell 0 fresh fresh 0)) (In false (cell 1 fresh fresh 0))

fresh-met : Pairs Meets fresh-stores (seats fresh-found)
fresh-met = pairs_more (meets_good refl) (pairs_more (meets_good refl) pairs_none)

abbrev fresh-won : Tree
fresh-won = two (In true (cell 0 fresh fresh 0)) (In false (cell 1 fresh fresh 0))

abbrev fresh-open : Tree
fresh-open = two (In true (cell 0 fresh fresh 0)) (In true (cell 1 fresh fresh 0))

-- the leftmost of two level disks wins; the other has its pages and its number, and nothing is written. A raise is owed
first-opening : Opens true 2 (seats fresh-found) (Good true 1) (seats fresh-open)
first-opening = open_good {w = fresh} {ys = seats fresh-won} {zs = seats fresh-open}
    (wins_here refl (every_more (most_in (lit≤ tt)) every_none))
    (enter_next nth_here passed_live
    (enter_joins (nth_later nth_here) refl
    (copy_same {x = 0 ∷ []} (reads-look {t = fresh-won} {u = fresh-won} (read_left (read_taken refl))) (nth_later nth_here) (λ q. refl)
    (copy_same {x = 0 ∷ []} (reads-look {t = fresh-won} {u = fresh-won} (read_left (read_taken refl))) (nth_later nth_here) (λ q. refl)
    (copy_even (only_later only_here))))
    enter_end))
    (renew_next nth_here filled_in (renew_next (nth_later nth_here) filled_in renew_end))

abbrev page-written : Tree
page-written = two (In true (cell 0 (image 1 1 0) fresh 0)) (In true (cell 1 (image 1 1 0) fresh 0))

first-write : Puts 0 (1 ∷ []) true (seats fresh-open) (Done true) true (seats page-written)
first-write = put_whole (passes-round {t = fresh-open} {u = page-written} (pass_both (pass_taken write_taken) (pass_taken write_taken)))

abbrev at-two : Tree
at-two = two (In true (cell 0 (image 2 1 0) (image 2 1 0) 0)) (In true (cell 1 (image 2 1 0) (image 2 1 0) 0))

abbrev at-three : Tree
at-three = two (In true (cell 0 (image 3 1 0) (image 3 1 0) 0)) (In true (cell 1 (image 3 1 0) (image 3 1 0) 0))

-- the sync: two rounds of raises
first-flush : Flushes true 1 (seats page-written) (Done true) false 3 (seats at-three)
first-flush = flush_owed (pays_twice {ys = seats at-two}
    (raised_whole (passes-round {t = page-written} {u = at-two} (pass_both (pass_taken raise_taken) (pass_taken raise_taken))))
    (raised_whole (passes-round {t = at-two} {u = at-three} (pass_both (pass_taken raise_taken) (pass_taken raise_taken)))))

abbrev page-lost : Tree
page-lost = two (In false (cell 0 (image 3 1 0) (image 3 1 0) 1)) (In true (cell 1 (image 3 1 2) (image 3 1 0) 0))

-- d fails the write, and a raise is owed again
second-write : Puts 1 (2 ∷ []) false (seats at-three) (Done false) true (seats page-lost)
second-write = put_lost (passes-round {t = at-three} {u = page-lost} (pass_right (pass_refused (refused {n = 1} (lit< tt))) (pass_taken write_taken)))

abbrev at-four : Tree
at-four = two (In false (cell 0 (image 3 1 0) (image 3 1 0) 1)) (In true (cell 1 (image 4 1 2) (image 4 1 2) 0))

abbrev at-five : Tree
at-five = two (In false (cell 0 (image 3 1 0) (image 3 1 0) 1)) (In true (cell 1 (image 5 1 2) (image 5 1 2) 0))

-- the closing sync leaves d at 3, and e at 5
second-flush : Flushes true 3 (seats page-lost) (Done true) false 5 (seats at-five)
second-flush = flush_owed (pays_twice {ys = seats at-four}
    (raised_whole (passes-round {t = page-lost} {u = at-four} (pass_right_only refl (pass_taken raise_taken))))
    (raised_whole (passes-round {t = at-four} {u = at-five} (pass_right_only refl (pass_taken raise_taken)))))

abbrev next-found : Tree
next-found = two (In false (cell 0 (image 3 1 0) (image 3 1 0) 1)) (In false (cell 1 (image 5 1 2) (image 5 1 2) 0))

next-met : Pairs Meets (stores (seats at-five)) (seats next-found)
next-met = pairs_more (meets_good refl) (pairs_more (meets_good refl) pairs_none)

abbrev next-won : Tree
next-won = two (In false (cell 0 (image 3 1 0) (image 3 1 0) 1)) (In true (cell 1 (image 5 1 2) (image 5 1 2) 0))

abbrev copied : Tree
copied = two (In false (cell 0 (image 3 1 2) (image 3 1 0) 1)) (In true (cell 1 (image 5 1 2) (image 5 1 2) 0))

abbrev next-open : Tree
next-open = two (In true (cell 0 (image 5 1 2) (image 5 1 2) 1)) (In true (cell 1 (image 5 1 2) (image 5 1 2) 0))

-- the next opening: e wins, and d gets the page and the number 5
next-opening : Opens true 2 (seats next-found) (Good true 5) (seats next-open)
next-opening = open_good {w = image 5 1 2} {ys = seats next-won} {zs = seats next-open}
    (wins_later (lit< tt) (wins_here refl every_none))
    (enter_joins nth_here refl
    (copy_same {x = 1 ∷ []} (reads-look {t = next-won} {u = next-won} (read_right_only refl (read_taken refl))) nth_here (λ q. refl)
    (copy_differs {x = 2 ∷ []} (reads-look {t = next-won} {u = next-won} (read_right_only refl (read_taken refl))) (λ q. zero-two) (λ q. refl) only_here
    (copy_settled {xs = seats copied} only_here)))
    (enter_next (nth_later nth_here) passed_live enter_end))
    (renew_next nth_here filled_in (renew_next (nth_later nth_here) filled_in renew_end))

abbrev at-six : Tree
at-six = two (In true (cell 0 (image 6 1 2) (image 6 1 2) 1)) (In true (cell 1 (image 6 1 2) (image 6 1 2) 0))

abbrev at-seven : Tree
at-seven = two (In true (cell 0 (image 7 1 2) (image 7 1 2) 1)) (In true (cell 1 (image 7 1 2) (image 7 1 2) 0))

-- and its closing sync leaves both at 7
next-flush : Flushes true 5 (seats next-open) (Done true) false 7 (seats at-seven)
next-flush = flush_owed (pays_twice {ys = seats at-six}
    (raised_whole (passes-round {t = next-open} {u = at-six} (pass_both (pass_taken raise_taken) (pass_taken raise_taken))))
    (raised_whole (passes-round {t = at-six} {u = at-seven} (pass_both (pass_taken raise_taken) (pass_taken raise_taken)))))

-- a disk that was replaced: d is blank, e has the number 2. d is made, whole and with e's number
abbrev blank-found : Tree
blank-found = two (Out Blank (none 0 true)) (In false (cell 1 (image 2 1 0) (image 2 1 0) 0))

blank-met : Pairs Meets (none 0 true ∷ store 1 (image 2 1 0) 0 ∷ []) (seats blank-found)
blank-met = pairs_more (meets_blank refl refl) (pairs_more (meets_good refl) pairs_none)

abbrev blank-won : Tree
blank-won = two (Out Blank (none 0 true)) (In true (cell 1 (image 2 1 0) (image 2 1 0) 0))

blank-opening : Opens true 2 (seats blank-found) (Good true 2) (seats at-two)
blank-opening = open_good {w = image 2 1 0} {ys = seats blank-won} {zs = seats blank-won}
    (wins_out (wins_here refl every_none))
    (enter_next nth_here passed_out (enter_next (nth_later nth_here) passed_live enter_end))
    (renew_made {F = (1 ∷ []) ∷ (0 ∷ []) ∷ []}
    (fill_next (reads-look {t = blank-won} {u = blank-won} (read_right_only refl (read_taken refl))) (fill_next (reads-look {t = blank-won} {u = blank-won} (read_right_only refl (read_taken refl))) fill_end))
    (record { disk = refl; generation = refl; faults = refl; cell = λ q. refl })
    only_here
    (renew_next (nth_later nth_here) filled_in renew_end))

-- the run over it writes the second page and is synced: both disks end at 4
abbrev made-written : Tree
made-written = two (In true (cell 0 (image 2 1 2) (image 2 1 0) 0)) (In true (cell 1 (image 2 1 2) (image 2 1 0) 0))

made-write : Puts 1 (2 ∷ []) true (seats at-two) (Done true) true (seats made-written)
made-write = put_whole (passes-round {t = at-two} {u = made-written} (pass_both (pass_taken write_taken) (pass_taken write_taken)))

abbrev made-three : Tree
made-three = two (In true (cell 0 (image 3 1 2) (image 3 1 2) 0)) (In true (cell 1 (image 3 1 2) (image 3 1 2) 0))

abbrev made-four : Tree
made-four = two (In true (cell 0 (image 4 1 2) (image 4 1 2) 0)) (In true (cell 1 (image 4 1 2) (image 4 1 2) 0))

made-flush : Flushes true 2 (seats made-written) (Done true) false 4 (seats made-four)
made-flush = flush_owed (pays_twice {ys = seats made-three}
    (raised_whole (passes-round {t = made-written} {u = made-three} (pass_both (pass_taken raise_taken) (pass_taken raise_taken))))
    (raised_whole (passes-round {t = made-three} {u = made-four} (pass_both (pass_taken raise_taken) (pass_taken raise_taken)))))

-- the old store of d is put back, which has the number 2 and the older page: e wins, and d gets the page and the number
abbrev back-found : Tree
back-found = two (In false (cell 0 (image 2 1 0) (image 2 1 0) 0)) (In false (cell 1 (image 4 1 2) (image 4 1 2) 0))

back-met : Pairs Meets (store 0 (image 2 1 0) 0 ∷ store 1 (image 4 1 2) 0 ∷ []) (seats back-found)
back-met = pairs_more (meets_good refl) (pairs_more (meets_good refl) pairs_none)

abbrev back-won : Tree
back-won = two (In false (cell 0 (image 2 1 0) (image 2 1 0) 0)) (In true (cell 1 (image 4 1 2) (image 4 1 2) 0))

back-opening : Opens true 2 (seats back-found) (Good true 4) (seats made-four)
back-opening = open_good {w = image 4 1 2} {ys = seats back-won} {zs = seats made-four}
    (wins_later (lit< tt) (wins_here refl every_none))
    (enter_joins nth_here refl
    (copy_same {x = 1 ∷ []} (reads-look {t = back-won} {u = back-won} (read_right_only refl (read_taken refl))) nth_here (λ q. refl)
    (copy_differs {x = 2 ∷ []} (reads-look {t = back-won} {u = back-won} (read_right_only refl (read_taken refl))) (λ q. zero-two) (λ q. refl) only_here
    (copy_settled {xs = seats (two (In false (cell 0 (image 2 1 2) (image 2 1 0) 0)) (In true (cell 1 (image 4 1 2) (image 4 1 2) 0)))} only_here)))
    (enter_next (nth_later nth_here) passed_live enter_end))
    (renew_next nth_here filled_in (renew_next (nth_later nth_here) filled_in renew_end))

-- a disk whose header was damaged: d is bad, and is left as it is
abbrev bad-found : Tree
bad-found = two (Out Bad (none 0 false)) (In false (cell 1 fresh fresh 0))

bad-met : Pairs Meets (none 0 false ∷ store 1 fresh 0 ∷ []) (seats bad-found)
bad-met = pairs_more (meets_bad refl refl) (pairs_more (meets_good refl) pairs_none)

abbrev bad-open : Tree
bad-open = two (Out Bad (none 0 false)) (In true (cell 1 fresh fresh 0))

bad-opening : Opens true 2 (seats bad-found) (Good true 1) (seats bad-open)
bad-opening = open_good {w = fresh} {ys = seats bad-open} {zs = seats bad-open}
    (wins_out (wins_here refl every_none))
    (enter_next nth_here passed_out (enter_next (nth_later nth_here) passed_live enter_end))
    (renew_next nth_here filled_bad (renew_next (nth_later nth_here) filled_in renew_end))

-- one disk of generation 1 is no mirror's, and owes nothing; one above does, as it may have been in a mirror's sync
alone-at-one : Opens true 2 (In false (cell 0 fresh fresh 0) ∷ []) (Good false 1) (In true (cell 0 fresh fresh 0) ∷ [])
alone-at-one = open_good {w = fresh} (wins_here refl every_none) (enter_next nth_here passed_live enter_end) (renew_next nth_here filled_in renew_end)

alone-at-two : Opens true 2 (In false (cell 0 (image 2 1 0) fresh 0) ∷ []) (Good true 2) (In true (cell 0 (image 2 1 0) fresh 0) ∷ [])
alone-at-two = open_good {w = image 2 1 0} (wins_here refl every_none) (enter_next nth_here passed_live enter_end) (renew_next nth_here filled_in renew_end)

-- the first history as a chain: two syncs are done in it, and it is looked at for the second one
abbrev at-both : ℕ → Bool
at-both = live_at (seats fresh-open)

fresh-comes : Every (Comes Direct 2 (fresh ∷ fresh ∷ [])) fresh-stores
fresh-comes = every_more (come 0) (every_more (come 1) every_none) where
  come : (d : ℕ) → Comes Direct 2 (fresh ∷ fresh ∷ []) (store d fresh 0)
  come d = record { shown = λ i e. has_here (some-same fresh i e); sized = λ i e. ap (λ (v : Image). length v.pages) (some-same i fresh (sym e)); settled = tt }

fresh-count : Count (fresh ∷ fresh ∷ []) fresh-stores at-both
fresh-count zero e = (fresh, at_place nth_here (stands refl), has_here refl)
fresh-count (suc zero) e = (fresh, at_place (nth_later nth_here) (stands refl), has_here refl)
fresh-count (suc (suc d)) e = cc

the-run : Chain Direct 2 NoSync (Runs (fresh ∷ fresh ∷ []) (fresh ∷ fresh ∷ []) (either at-both (live_at (seats fresh-open))) true 1 (seats fresh-open))
the-run = chain_runs {run = at-both} {ss = fresh-stores} {xs = seats fresh-found}
    (chain_starts 1 (every_more (lit≤ tt) (every_more (lit≤ tt) every_none)) (every_more (lit≤ tt) (every_more (lit≤ tt) every_none)))
    fresh-comes
    (record { for_run = fresh-count; for_sync = fresh-count; both = λ d e. e })
    fresh-met
    (up {d = 0} refl nth_here)
    first-opening
    (lit< tt)

-- what the second sync made lasting
abbrev synced : List (List ℕ)
synced = (1 ∷ []) ∷ (2 ∷ []) ∷ []

the-chain : Chain Direct 2 (Synced synced []) (Rests (image 3 1 0 ∷ image 5 1 2 ∷ fresh ∷ fresh ∷ []) (image 5 1 2 ∷ []) (image 5 1 2 ∷ []))
the-chain = chain_rests {xs = seats at-five} {ts = stores (seats at-five)}
    (run_ends (run_syncs (run_writes (run_flushes (run_writes the-run first-write) first-flush (lit< tt)) second-write) second-flush (lit< tt) (every_more pages_left (every_more (pages_live refl) every_none))))
    (pairs_more (leaves shows_now refl) (pairs_more (leaves shows_now refl) pairs_none))

left-comes : Every (Comes Direct 2 (image 3 1 0 ∷ image 5 1 2 ∷ fresh ∷ fresh ∷ [])) (stores (seats at-five))
left-comes = every_more
    (record { shown = λ i e. has_here (some-same (image 3 1 0) i e); sized = λ i e. ap (λ (v : Image). length v.pages) (some-same i (image 3 1 0) (sym e)); settled = tt })
    (every_more (record { shown = λ i e. has_later (has_here (some-same (image 5 1 2) i e)); sized = λ i e. ap (λ (v : Image). length v.pages) (some-same i (image 5 1 2) (sym e)); settled = tt }) every_none)

-- e counts for it, and is up: both pages are there
it-lasts : (G : List (List ℕ)) × Every (HasPages G) (seats next-open) × Within (Since_then synced []) G
it-lasts = chain-lasts the-chain left-comes next-met next-opening (nth_later nth_here) (has_here refl)
