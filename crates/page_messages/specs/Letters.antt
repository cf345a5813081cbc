-- What is written to ask, to order and to answer.
use Rattle.std.specs.Prelude.{◌≡◌, ◌<◌, ℕ, ◌+◌, ◌==◌, ◌&&◌, Bool, false, true, if◌then◌else◌, List, [], length}
use Rattle.std.specs.List.{list_all}
use Rattle.tower_core.specs.declared.right.Right.{Right}
use Rattle.layer_laws.specs.Side.{Side}
use Rattle.pager_channel.specs.declared.operation.Operation.{Operation}
use Rattle.pager_channel.specs.declared.flags.TheConstants.{DATA, REPLY, TO_CACHE}
use Rattle.pager_channel.specs.Flags.{has_data, is_to_cache, is_to_file}
use Rattle.pager_channel.specs.Numbers.{IsOfObject}
use Rattle.page_messages.specs.declared.kinds.Asked.{Asked}
use Rattle.page_messages.specs.declared.kinds.Called.{Called}

-- an operation, the right that the cache has after the message, the flags and the data
pub record LetterSeen : Type 0 where
  pub which : Operation
  pub right : Right
  pub flags : ℕ
  pub body : List ℕ

-- one without data
abbrev pub bare : Operation → Right → ℕ → LetterSeen
bare which right flags = record { which = which; right = right; flags = flags; body = [] }

-- one that gives a copy back, where it is changed
abbrev pub pushed : Side → Operation → Right → ℕ → LetterSeen
pushed s which right flags = record {
  which = which;
  right = right;
  flags = if s.changed then flags + DATA else flags;
  body = if s.changed then s.copy else [];
}

-- a grant of a page with these bytes
abbrev pub is_zeros : List ℕ → Bool
is_zeros bytes = list_all (λ byte. byte == 0) bytes

abbrev pub grant : Right → List ℕ → LetterSeen
grant right page =
    if is_zeros page then bare Operation.ZeroFill right TO_CACHE
    else record { which = Operation.PageIn; right = right; flags = REPLY + DATA; body = page }

-- a grant for writing, to a node that has this right
abbrev pub write_grant : Right → List ℕ → LetterSeen
write_grant Right.Nothing page = grant Right.Write page
write_grant right page = bare Operation.PageIn Right.Write REPLY

-- WHAT IS ASKED by a node
abbrev pub question : Side → Asked → LetterSeen
question s Asked.PageInRead = bare Operation.PageIn Right.Read 0
question s Asked.PageInWrite = bare Operation.PageIn Right.Write 0
question s Asked.PageOut = pushed s Operation.PageOut Right.Nothing 0
question s Asked.WriteOut = pushed s Operation.WriteOut Right.Read 0
question s Asked.Sync = pushed s Operation.Sync Right.Write 0
question s Asked.Done = bare Operation.Done Right.Nothing 0

-- WHAT IS ANSWERED to a question of a node that has this right, where the page has these bytes
abbrev pub answer : Right → List ℕ → Asked → LetterSeen
answer right page Asked.PageInRead = grant Right.Read page
answer right page Asked.PageInWrite = write_grant right page
answer right page Asked.PageOut = bare Operation.PageOut Right.Nothing REPLY
answer right page Asked.WriteOut = bare Operation.WriteOut Right.Read REPLY
answer right page Asked.Sync = bare Operation.Sync Right.Write REPLY
answer right page Asked.Done = bare Operation.Done Right.Nothing REPLY

-- WHAT IS ORDERED
abbrev pub order : Called → LetterSeen
order Called.FlushBack = bare Operation.FlushBack Right.Nothing TO_CACHE
order Called.DenyWrites = bare Operation.DenyWrites Right.Read TO_CACHE
order Called.WriteBack = bare Operation.WriteBack Right.Write TO_CACHE
order Called.DeleteRange = bare Operation.DeleteRange Right.Nothing TO_CACHE
order Called.Destroy = bare Operation.Destroy Right.Nothing TO_CACHE

-- WHAT IS ANSWERED to an order
abbrev pub reply : Side → Called → LetterSeen
reply s Called.FlushBack = pushed s Operation.FlushBack Right.Nothing (TO_CACHE + REPLY)
reply s Called.DenyWrites = pushed s Operation.DenyWrites Right.Read (TO_CACHE + REPLY)
reply s Called.WriteBack = pushed s Operation.WriteBack Right.Write (TO_CACHE + REPLY)
reply s Called.DeleteRange = bare Operation.DeleteRange Right.Nothing (TO_CACHE + REPLY)
reply s Called.Destroy = bare Operation.Destroy Right.Nothing (TO_CACHE + REPLY)

-- the end of a channel is about no page
abbrev pub is_paged : Operation → Bool
is_paged Operation.Done = false
is_paged Operation.Destroy = false
is_paged which = true

-- what can be sent: the flags name the operation's object, and the data are a page or nothing
pub record IsLetter (page_size : ℕ) (l : LetterSeen) : Type 0 where
  pub flags : l.flags < 16
  pub one_object : is_to_cache l.flags && is_to_file l.flags ≡ false
  pub object : IsOfObject l.flags l.which
  pub paged : has_data l.flags ≡ true → is_paged l.which ≡ true
  pub body : length l.body ≡ (if has_data l.flags then page_size else 0)
