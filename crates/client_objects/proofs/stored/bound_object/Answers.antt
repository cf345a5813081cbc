use Rattle.client_objects.proofs.KindLaws.{no_tag}
use Rattle.client_objects.proofs.stored.bound_object.Goals as goal

pub sent-requires-in-Singleton : goal.sent-requires-in-Singleton
sent-requires-in-Singleton c =
    record { tag = no_tag c.args.kind; name = rw c.name_for-name.ensures c.requires.name; bytes = rw c.name_for-name.ensures c.requires.short }
