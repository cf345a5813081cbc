-- The frame of a call that is carried: how long it is, and what is read of it again.
use Rattle.std.proofs.Common.{◌≡◌, ◌≢◌, ℕ, zero, suc, ◌+◌, ◌<◌, ◌≤◌, ◌^◌, Bool, true, false, cond, List, [], ◌∷◌, ◌++◌, length, Option, Some, None, Result, Ok, Err, inl, refl, sym, ap, subst, ◌∙◌, arith, lit≤}
use Rattle.std.specs.Prelude.{MatchResult}
use Rattle.std.specs.List.{AllByRecursion}
use Rattle.std.proofs.lemmas.List.{length-append}
use Rattle.hist_plain.specs.declared.TheConstants.{MAX_PAGES}
use Rattle.marshal_buf.specs.declared.door.Door.{Door}
use Rattle.marshal_buf.specs.Numbers.{number_bytes}
use Rattle.marshal_buf.proofs.NumberLaws.{length-number_bytes}
use Rattle.pager_channel.specs.declared.front.Head.{Head}
use Rattle.pager_channel.specs.declared.numbers.Ops.{Ops}
use Rattle.pager_channel.specs.Flags.{has_data}
use Rattle.pager_channel.specs.Size.{data_size}
use Rattle.pager_channel.specs.Frame.{IsFrame, first_part, frame_bytes, second_part}
use Rattle.stack_accept.specs.declared.entries.FileEntry.{FileEntry}
use Rattle.stack_accept.specs.Mount.{Mount}
use Rattle.stack_accept.specs.Sound.{IsInLimits, IsMount}
use Rattle.file_frames.specs.declared.call.FileCall.{FileCall}
use Rattle.file_frames.specs.declared.call.Received.{Received}
use Rattle.file_frames.specs.declared.why.CallWhy.{CallWhy}
use Rattle.file_frames.specs.Calls.{IsOnePage, data_of}
use Rattle.file_frames.specs.Frames.{IsReceived, call_bytes, frame_of_call, head_of_call, received_bytes}
use Rattle.dfs_layer.specs.Packets.{IsPacket, PacketSeen, packet_bytes}
use Rattle.dfs_layer.specs.declared.why.BadPacket.{BadPacket}
use Rattle.link_lossy.specs.declared.request.Request.{Request as Packed}
use Rattle.link_lossy.specs.declared.why.BadLink.{BadLink}
use Rattle.link_lossy.specs.Reading.{request_at}
use Rattle.client_objects.specs.declared.kind.ObjectKind.{ObjectKind}
use Rattle.client_objects.specs.declared.kind.ObjectKind.TheVariants.{Singleton, Cluster, Caching, Reconnectable}
use Rattle.client_objects.specs.declared.target.Target.{Target}
use Rattle.client_objects.specs.declared.target.Way.{Way}
use Rattle.client_objects.specs.Found.{door_to}
use Rattle.client_objects.specs.Kinds.{file_of, id_of}
use Rattle.client_objects.specs.Ways.{file_by, way_of}
use Rattle.script_meaning.specs.Stack.{pages_of}
use Rattle.stack_engine.specs.declared.refusal.StepErr.{StepErr}
use Rattle.link_lossy.specs.declared.serve.Served.{Served}
use Rattle.link_lossy.specs.declared.serve.ServeErr.{ServeErr}
use Rattle.spr_volume.specs.declared.answered.Answered.{Answered}
use Rattle.spr_volume.specs.Passes.{Knows}
use Rattle.script_meaning.specs.Plan.{asking}
use Rattle.spr_client.specs.Calls.{CallDone}
use Rattle.spr_client.specs.Serving.{FitsFile, IsRequestOf, IsRoute, IsWayTo, Serves, ask_by, frame_on, volume_answer}

-- HOW LONG A CALL'S FRAME IS: 24 bytes and a page at most
frame_length : (h : Head) (body : List ℕ) → length (frame_bytes h body) ≡ 24 + length body
unfolding frame_bytes first_part second_part
frame_length h body =
    let a = length-number_bytes 2 h.subcontract in
    let b = length-number_bytes 2 h.operation in
    let c = length-number_bytes 4 h.tag in
    let d = length-number_bytes 8 h.offset in
    let e = length-number_bytes 4 h.size in
    let f = length-number_bytes 2 0 in
    let one = length-append (number_bytes 4 h.tag) (number_bytes 8 h.offset) in
    let two = length-append (number_bytes 2 h.operation) (number_bytes 4 h.tag ++ number_bytes 8 h.offset) in
    let three = length-append (number_bytes 2 h.subcontract) (number_bytes 2 h.operation ++ (number_bytes 4 h.tag ++ number_bytes 8 h.offset)) in
    let four = length-append (number_bytes 4 h.size) (h.access ∷ h.flags ∷ number_bytes 2 0) in
    let five = length-append (second_part h) body in
    let six = length-append (first_part h) (second_part h ++ body) in
    omega (arith, a, b, c, d, e, f, one, two, three, four, five, six)

few-by : (b : Bool) (size n : ℕ) → size ≤ 4096 → n ≡ cond b size 0 → n ≤ 4096
few-by true size n few is = let e : n ≡ size = is in omega (arith, few, e)
few-by false size n few is = let e : n ≡ 0 = is in omega (arith, e)

pub frame-short : (ops : Ops) (page_size subcontract tag : ℕ) (call : FileCall) → IsFrame ops (frame_of_call ops page_size subcontract tag call) → length (call_bytes ops page_size subcontract tag call) ≤ 4120
frame-short ops page_size subcontract tag call is =
    let h : Head = head_of_call ops page_size subcontract tag call in
    let long = frame_length h (data_of call) in
    let few = few-by (has_data h.flags) h.size (length (data_of call)) is.head.size is.body in
    omega (arith, long, few)

-- WHAT MAY BE READ OF IT
few_pages : (mount : Mount) (files : List FileEntry) (file : ℕ) → AllByRecursion (λ f. IsInLimits f.pages) files → pages_of (record mount { files = files }) file ≤ MAX_PAGES
few_pages mount [] file all = lit≤ tt
few_pages mount (f ∷ files) zero all = all.0.1
few_pages mount (f ∷ files) (suc file) all = few_pages mount files file all.1

one_page : (mount : Mount) (file : ℕ) (call : FileCall) → IsMount mount → FitsFile mount file call → IsOnePage mount.page_size call
one_page mount file (FileCall.Access op) sound fits = (pages_of mount file, few_pages mount mount.files file sound.pages, fits)
one_page mount file FileCall.Sync sound fits = tt

-- a frame may have the identifier, and by it the object's file is chosen
way_low : (kind : ObjectKind) → 1 ≤ id_of kind
way_low Singleton = lit≤ tt
way_low Cluster = lit≤ tt
way_low Caching = lit≤ tt
way_low Reconnectable = lit≤ tt

way_high : (kind : ObjectKind) → id_of kind ≤ 5
way_high Singleton = lit≤ tt
way_high Cluster = lit≤ tt
way_high Caching = lit≤ tt
way_high Reconnectable = lit≤ tt

way_chooses : (kind : ObjectKind) (door : Door) (tag : ℕ) → file_by (id_of kind) door tag ≡ file_of kind door tag
way_chooses Singleton door tag = refl
way_chooses Cluster door tag = refl
way_chooses Caching door tag = refl
way_chooses Reconnectable door tag = refl

pub way_to : (mount : Mount) (target : Target) (node : ℕ) → IsRoute mount target node → IsWayTo mount (way_of target) node
way_to mount target node route = record {
  said = record { low = way_low target.kind; high = way_high target.kind; chosen = way_chooses target.kind (door_to target) target.tag ∙ route.chosen };
  file = route.file;
  above = route.above;
  inside = route.inside;
}

abbrev pub read_on : Way → FileCall → Received
read_on way call = record { subcontract = way.sub; tag = way.tag; call = call }

received_on : (mount : Mount) (way : Way) (call : FileCall) → IsMount mount → (1 ≤ way.sub) × (way.sub ≤ 5) → way.tag < 2 ^ 32 → FitsFile mount way.file call → IsReceived mount.page_size (read_on way call)
received_on mount way call sound known tag fits = record {
  subcontract_low = known.0;
  subcontract_high = known.1;
  tag = tag;
  call = one_page mount way.file call sound fits;
}

-- what reading a frame may answer, if it is that of this call
abbrev pub Reads : ℕ → Ops → List ℕ → Result Received CallWhy → Type 0
Reads page_size ops frame result =
    (r : Received) → IsReceived page_size r → frame ≡ received_bytes ops page_size r → MatchResult result (λ read. read ≡ r) (λ why. why ≡ CallWhy.Memory)

ok-is : (result : Result Received CallWhy) (received r : Received) → result ≡ Ok received → MatchResult result (λ read. read ≡ r) (λ why. why ≡ CallWhy.Memory) → received ≡ r
ok-is (Ok x) received r is same = let this : x ≡ received = cc in sym this ∙ same
ok-is (Err e) received r is same = absurd cc

err-is : (result : Result Received CallWhy) (why : CallWhy) (r : Received) → result ≡ Err why → MatchResult result (λ read. read ≡ r) (λ w. w ≡ CallWhy.Memory) → why ≡ CallWhy.Memory
err-is (Ok x) why r is same = absurd cc
err-is (Err e) why r is same = let this : e ≡ why = cc in sym this ∙ same

pub call-read : (mount : Mount) (ops : Ops) (way : Way) (call : FileCall) (frame : List ℕ) (result : Result Received CallWhy) (received : Received) → IsMount mount → (1 ≤ way.sub) × (way.sub ≤ 5) → way.tag < 2 ^ 32 → FitsFile mount way.file call
    → frame ≡ frame_on mount ops way call → Reads mount.page_size ops frame result → result ≡ Ok received → received ≡ read_on way call
call-read mount ops way call frame result received sound known tag fits framed reads is =
    ok-is result received (read_on way call) is (reads (read_on way call) (received_on mount way call sound known tag fits) framed)

pub call-unread : (mount : Mount) (ops : Ops) (way : Way) (call : FileCall) (frame : List ℕ) (result : Result Received CallWhy) (why : CallWhy) → IsMount mount → (1 ≤ way.sub) × (way.sub ≤ 5) → way.tag < 2 ^ 32 → FitsFile mount way.file call
    → frame ≡ frame_on mount ops way call → Reads mount.page_size ops frame result → result ≡ Err why → why ≡ CallWhy.Memory
call-unread mount ops way call frame result why sound known tag fits framed reads is =
    err-is result why (read_on way call) is (reads (read_on way call) (received_on mount way call sound known tag fits) framed)

-- WHICH REQUEST IT IS
read_of : Packed → Result (ℕ × Packed) BadLink → Packed
read_of d (Ok x) = x.1
read_of d (Err bad) = d

same-request : (number other : ℕ) (r s : Packed) (x : Result (ℕ × Packed) BadLink) → x ≡ Ok (number, r) → x ≡ Ok (other, s) → r ≡ s
unfolding read_of
same-request number other r s x e f = sym (ap (read_of r) e) ∙ ap (read_of r) f

pub record IsReadAs (mount : Mount) (ops : Ops) (caller life : ℕ) (way : Way) (call : FileCall) (request : Packed) : Type 0 where
  pub caller_is : request.caller ≡ caller
  pub life_is : request.life ≡ life
  pub frame_is : request.packet.frame ≡ frame_on mount ops way call

pub request-read : (mount : Mount) (ops : Ops) (caller life : ℕ) (way : Way) (call : FileCall) (bytes : List ℕ) (number : ℕ) (request : Packed) → request_at bytes ≡ Ok (number, request) → IsRequestOf mount ops caller life way call bytes
    → IsReadAs mount ops caller life way call request
request-read mount ops caller life way call bytes number request read is =
    let same : is.request ≡ request = same-request is.number number is.request request (request_at bytes) is.read read in
    subst (λ (r : Packed). IsReadAs mount ops caller life way call r) same (record { caller_is = is.caller_is; life_is = is.life_is; frame_is = is.frame_is })

-- a frame goes in a packet, and the packet in a request
pub few-put : (n m : ℕ) → n ≡ 0 → m ≤ 4120 → n + 8 + m < 2 ^ 32
few-put n m none few = let big : 4129 ≤ 2 ^ 32 = lit≤ tt in omega (arith, none, few, big)

pub few-asked : (m : ℕ) → m ≤ 4120 → 24 + m < 2 ^ 32
few-asked m few = let big : 4145 ≤ 2 ^ 32 = lit≤ tt in omega (arith, few, big)

pub few-read : (m : ℕ) → m ≤ 4120 → m < 2 ^ 32
few-read m few = let big : 4121 ≤ 2 ^ 32 = lit≤ tt in omega (arith, few, big)

-- a packet is read again
ok-packet : (p q : PacketSeen) (result : Result PacketSeen BadPacket) → result ≡ Ok q → result ≡ Ok p → q ≡ p
ok-packet p q result e f = let both : ◌≡◌ {A = Result PacketSeen BadPacket} (Ok q) (Ok p) = sym e ∙ f in cc

pub packet-read : (from to : ℕ) (frame bytes : List ℕ) (q : PacketSeen) (result : Result PacketSeen BadPacket) → from < 2 ^ 32 → to < 2 ^ 32 → from ≢ to → bytes ≡ packet_bytes from to frame
    → ((p : PacketSeen) → IsPacket p → bytes ≡ packet_bytes p.from p.to p.frame → result ≡ Ok p) → result ≡ Ok q → q ≡ record { from = from; to = to; frame = frame }
packet-read from to frame bytes q result low high apart is only e =
    let p : PacketSeen = record { from = from; to = to; frame = frame } in
    ok-packet p q result e (only p (record { from_fits = low; to_fits = high; apart = apart }) is)

pub packet-is : (from to : ℕ) (frame bytes : List ℕ) (result : Result PacketSeen BadPacket) → from < 2 ^ 32 → to < 2 ^ 32 → from ≢ to → bytes ≡ packet_bytes from to frame
    → ((p : PacketSeen) → IsPacket p → bytes ≡ packet_bytes p.from p.to p.frame → result ≡ Ok p) → result ≡ Ok (record { from = from; to = to; frame = frame })
packet-is from to frame bytes result low high apart is only =
    let p : PacketSeen = record { from = from; to = to; frame = frame } in
    only p (record { from_fits = low; to_fits = high; apart = apart }) is

-- WHAT SERVING DID, with its caller, its life and its call written otherwise
pub serves-as : (by caller lives life file node : ℕ) (read call : FileCall) (old new : Knows) (out : List ℕ) (answered : Result Answered StepErr) (served : Result Served ServeErr) → by ≡ caller → lives ≡ life → read ≡ call
    → CallDone by (asking file (ask_by node lives read)) old new out answered → volume_answer served ≡ answered → Serves caller (asking file (ask_by node life call)) old new out served
serves-as by caller lives life file node read call old new out answered served caller_is life_is call_is done is =
    inl (subst (λ (a : Result Answered StepErr). CallDone caller (asking file (ask_by node life call)) old new out a) (sym is)
    (subst (λ (c : FileCall). CallDone caller (asking file (ask_by node life c)) old new out answered) call_is
    (subst (λ (n : ℕ). CallDone caller (asking file (ask_by node n read)) old new out answered) life_is
    (subst (λ (n : ℕ). CallDone n (asking file (ask_by node lives read)) old new out answered) caller_is done))))
