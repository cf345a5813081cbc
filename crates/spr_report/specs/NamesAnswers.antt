-- How a call on the names is answered.
use Rattle.std.specs.Prelude.{ℕ, List, Option, Some, None}
use Rattle.script_text.specs.declared.script.Reply.{Reply}
use Rattle.script_text.specs.declared.script.Reply.TheVariants as replies
use Rattle.name_context.specs.declared.entry.NameErr.{NameErr}
use Rattle.script_meaning.specs.Plan.{refused_as}

-- done, or what a client is answered whose line makes a call that is refused so
abbrev pub reply_of : Option (List (List ℕ)) → Option NameErr → Reply
reply_of path None = replies.Done
reply_of path (Some why) = refused_as path why
