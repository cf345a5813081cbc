use Rattle.std.proofs.Common.{subst, sym}
use Rattle.lru.specs.LruCache.{LruCache}
use Rattle.page_messages.specs.declared.slot.Slot.{Slot}
use Rattle.vmm_cache.specs.Uses.{used_last}
use Rattle.vmm_cache.specs.Frames.{FramesPage, side_in, uses_in}
use Rattle.vmm_cache.proofs.Entries.{used}
use Rattle.vmm_cache.proofs.frames.use_page.Goals as goal
use Rattle.std.proofs.Common.{ℕ}

pub returns : goal.returns
returns c = subst (λ (n : LruCache ℕ Slot). FramesPage c.args.held.now n c.args.page (side_in c.args.held.now c.args.page) (used_last c.args.page (uses_in c.args.held.now))) (sym c.promote-found.ensures.entries) (used c.args.held.now c.args.page c.len-len.ensures.valid.0 c.requires)
