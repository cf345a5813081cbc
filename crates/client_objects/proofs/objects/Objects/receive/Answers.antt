use Rattle.std.proofs.Common.{◌≡◌, ◌++◌, ◌∷◌, [], List, sym, subst, ◌∙◌, ap}
use Rattle.client_objects.specs.declared.target.Target.{Target}
use Rattle.client_objects.specs.declared.target.Found.{Found}
use Rattle.client_objects.specs.declared.entry.Entry.{Entry}
use Rattle.client_objects.specs.Objects.{OpenObject, with_object}
use Rattle.client_objects.specs.Kinds.{id_of}
use Rattle.client_objects.specs.Stored.{target_of}
use Rattle.client_objects.specs.Found.{found_on}
use Rattle.client_objects.specs.Held.{seen, target_in, AreHeld}
use Rattle.client_objects.proofs.HeldLaws.{are_held-receive, seen-receive, held-receive, target_in-receive}
use Rattle.client_objects.proofs.ReceivedLaws.{unread_is, received-reads, received-sub, received-target, received-word, received-leads_to_view}
use Rattle.client_objects.proofs.objects.Objects.receive.Goals as goal

pub take_in-requires : goal.take_in-requires
take_in-requires c =
    let from = c.reader-from.ensures in
    let start = unread_is c.reader-from.result c.args.stored.now.bytes c.args.stored.now.doors from.input from.doors from.at from.next in
    let is = sym c.received_target.ensures ∙ c.in-Some.is in
    received-reads c.args.mount.now c.args.stored.now.bytes c.args.stored.now.doors c.in-Some.target c.reader-from.result start is

pub found_of-node-requires-clause-held : goal.found_of-node-requires-clause-held
found_of-node-requires-clause-held c =
    let from = c.reader-from.ensures in
    let start = unread_is c.reader-from.result c.args.stored.now.bytes c.args.stored.now.doors from.input from.doors from.at from.next in
    let is = sym c.received_target.ensures ∙ c.in-Some.is in
    let got = c.in_ok-object.ensures.ok in
    let sub = received-sub c.args.mount.now c.args.stored.now.bytes c.args.stored.now.doors c.in-Some.target c.reader-from.result c.take_in.new.from c.self.inside.domain c.take_in.new.domain c.in_ok-object.object start is got in
    held-receive c.self.inside.domain c.take_in.new.domain c.in-Some.target.kind c.in_ok-object.object c.reader-from.result c.take_in.new.from sub got

pub found_of-node-requires-clause-leads : goal.found_of-node-requires-clause-leads
found_of-node-requires-clause-leads c =
    let from = c.reader-from.ensures in
    let start = unread_is c.reader-from.result c.args.stored.now.bytes c.args.stored.now.doors from.input from.doors from.at from.next in
    let is = sym c.received_target.ensures ∙ c.in-Some.is in
    received-leads_to_view c.args.mount.now c.args.stored.now.bytes c.args.stored.now.doors c.in-Some.target c.reader-from.result c.take_in.new.from c.self.inside.domain c.take_in.new.domain c.in_ok-object.object start is c.in_ok-object.ensures.ok

pub invariant_of-self-2 : goal.invariant_of-self-2
invariant_of-self-2 c =
    let entry : Entry = record { name = c.args.name; kind = c.in-Some.target.kind; object = c.in_ok-object.object } in
    let items = c.push_reserved.ensures.items ∙ ap (λ (es : List Entry). es ++ entry ∷ []) c.reserve.ensures.items in
    let from = c.reader-from.ensures in
    let start = unread_is c.reader-from.result c.args.stored.now.bytes c.args.stored.now.doors from.input from.doors from.at from.next in
    let is = sym c.received_target.ensures ∙ c.in-Some.is in
    let got = c.in_ok-object.ensures.ok in
    let sub = received-sub c.args.mount.now c.args.stored.now.bytes c.args.stored.now.doors c.in-Some.target c.reader-from.result c.take_in.new.from c.self.inside.domain c.take_in.new.domain c.in_ok-object.object start is got in
    subst (λ (es : List Entry). AreHeld c.take_in.new.domain es) (sym items)
    (are_held-receive c.self.inside.domain c.take_in.new.domain c.self.inside.entries.items c.args.name c.in-Some.target.kind c.in_ok-object.object c.reader-from.result c.take_in.new.from c.self.invariant sub got)

pub returns-clause-read : goal.returns-clause-read
returns-clause-read c = sym c.received_target.ensures ∙ c.in-Some.is

pub returns-clause-node : goal.returns-clause-node
returns-clause-node c =
    let from = c.reader-from.ensures in
    let start = unread_is c.reader-from.result c.args.stored.now.bytes c.args.stored.now.doors from.input from.doors from.at from.next in
    let is = sym c.received_target.ensures ∙ c.in-Some.is in
    let got = c.in_ok-object.ensures.ok in
    let target : target_in c.take_in.new.domain c.in-Some.target.kind c.in_ok-object.object ≡ c.in-Some.target =
    target_in-receive c.self.inside.domain c.take_in.new.domain c.in-Some.target.kind c.in_ok-object.object c.reader-from.result c.take_in.new.from got
    ∙ received-target c.args.mount.now c.args.stored.now.bytes c.args.stored.now.doors c.in-Some.target c.reader-from.result c.take_in.new.from c.self.inside.domain c.take_in.new.domain c.in_ok-object.object start is got in
    let with_node : Found → Found = λ f. record { target = c.in-Some.target; node = f.node } in
    ap with_node (c.found_of-node.ensures ∙ ap (found_on c.args.mount.now c.args.machine) target)

pub returns-clause-opened : goal.returns-clause-opened
returns-clause-opened c =
    let entry : Entry = record { name = c.args.name; kind = c.in-Some.target.kind; object = c.in_ok-object.object } in
    let items = c.push_reserved.ensures.items ∙ ap (λ (es : List Entry). es ++ entry ∷ []) c.reserve.ensures.items in
    let from = c.reader-from.ensures in
    let start = unread_is c.reader-from.result c.args.stored.now.bytes c.args.stored.now.doors from.input from.doors from.at from.next in
    let is = sym c.received_target.ensures ∙ c.in-Some.is in
    let got = c.in_ok-object.ensures.ok in
    let target = received-target c.args.mount.now c.args.stored.now.bytes c.args.stored.now.doors c.in-Some.target c.reader-from.result c.take_in.new.from c.self.inside.domain c.take_in.new.domain c.in_ok-object.object start is got in
    let word = received-word c.args.mount.now c.args.stored.now.bytes c.args.stored.now.doors c.in-Some.target c.reader-from.result c.take_in.new.from c.self.inside.domain c.take_in.new.domain c.in_ok-object.object start is got in
    let seen_now = seen-receive c.self.inside.domain c.take_in.new.domain c.self.inside.entries.items c.args.name c.in-Some.target.kind c.in_ok-object.object c.reader-from.result c.take_in.new.from c.self.invariant got in
    ap (seen c.take_in.new.domain) items
    ∙ seen_now
    ∙ ap (λ (os : List OpenObject). with_object os c.args.name (target_of c.in-Some.target.kind got.reads.fields) got.reads.fields.name) c.self.view_is
    ∙ ap (λ (t : Target). with_object c.args.self.now c.args.name t got.reads.fields.name) target
    ∙ ap (with_object c.args.self.now c.args.name c.in-Some.target) word
