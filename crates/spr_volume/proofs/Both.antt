-- A volume is files and names: what holds of it, from what holds of both.
use Rattle.std.proofs.Common.{◌≡◌, ℕ, List, Some, subst}
use Rattle.hist_lock.specs.Ranges.{Follows, in_range}
use Rattle.name_context.specs.declared.entry.NameEntry.{NameEntry}
use Rattle.name_context.specs.History.{IsStory}
use Rattle.spr_volume.specs.FilePasses.{FilesSeen, FilesKnown}
use Rattle.spr_volume.specs.FilePasses.{AllQuietly as AllFilesQuietly}
use Rattle.spr_volume.specs.NamesShared.{NamesLock, NamesSeat}
use Rattle.spr_volume.specs.Passes.{AllQuietly, IsSeat, Knows, VolumeSeen, pass_of, volume_of}

-- a history that explains itself under the lock does so in the volume
pub story_of : (v : VolumeSeen) (f : FilesSeen) (l : NamesLock) (history : List NameEntry) → volume_of f l ≡ v → IsStory l.part history → IsStory v.names.began history
story_of v f l history is story = let P : VolumeSeen → Type 0 = λ x. IsStory x.names.began history in subst P is story

-- what goes on quietly in the files and under the names' lock goes on quietly
pub quiet_of : (p : Knows) (k k' : FilesKnown) (s s' : NamesSeat) → pass_of k s ≡ p → IsSeat k.first k.end s → AllFilesQuietly k.first k.end k k'
    → Follows (λ (e : NameEntry). in_range s.first s.end (Some e.caller)) s.seen s'.seen → AllQuietly p.first p.end p (pass_of k' s')
quiet_of p k k' s s' is seat files names =
    let P : Knows → Type 0 = λ q. AllQuietly q.first q.end q (pass_of k' s') in
    let A : ℕ → Type 0 = λ n. Follows (λ (e : NameEntry). in_range n s.end (Some e.caller)) s.seen s'.seen in
    let B : ℕ → Type 0 = λ n. Follows (λ (e : NameEntry). in_range k.first n (Some e.caller)) s.seen s'.seen in
    subst P is (record { files = files; names = subst B seat.end_is (subst A seat.first_is names) })
