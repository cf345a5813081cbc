use Rattle.std.proofs.Common.{ℕ, subst, sym}
use Rattle.lru.specs.LruCache.{LruCache}
use Rattle.page_messages.specs.declared.slot.Slot.{Slot}
use Rattle.vmm_cache.specs.Frames.{FreesPage}
use Rattle.vmm_cache.proofs.Entries.{freed}
use Rattle.vmm_cache.proofs.frames.free.Goals as goal

pub returns : goal.returns
returns c = subst (λ (n : LruCache ℕ Slot). FreesPage c.args.held.now n c.args.page) (sym c.pop-slot.ensures.entries) (freed c.args.held.now c.args.page c.len-len.ensures.valid.0)
