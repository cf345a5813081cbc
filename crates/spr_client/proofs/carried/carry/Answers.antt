use Rattle.std.proofs.Common.{◌≡◌, ◌<◌, ◌≤◌, ◌+◌, ◌++◌, ℕ, List, [], length, inr, refl, sym, ap, subst, ◌∙◌, arith}
use Rattle.pager_channel.specs.Frame.{IsFrame}
use Rattle.file_frames.specs.Frames.{call_bytes, frame_of_call}
use Rattle.dfs_layer.specs.Packets.{PacketSeen, packet_bytes}
use Rattle.link_lossy.specs.declared.request.Request.{Request as Packed}
use Rattle.link_lossy.specs.Reading.{request_at}
use Rattle.spr_client.specs.Serving.{IsRequestOf, frame_on}
use Rattle.spr_client.proofs.CarriedLaws.{few-asked, few-put, frame-short, packet-is, packet-read}
use Rattle.spr_client.proofs.carried.carry.Goals as goal

pub put_packet-requires-clause-few : goal.put_packet-requires-clause-few
put_packet-requires-clause-few g c =
    let mount = c.args.common.now.mount.now in
    let ops = c.args.common.now.ops.now in
    let way = c.args.way in
    let call = c.args.call.now in
    let size = c.page_size-page_size.result in
    let framed : c.as_slice.result.now ≡ call_bytes ops size way.sub way.tag call =
    c.as_slice.ensures.value ∙ (c.in-Ok.ensures.ok.bytes ∙ ap (λ (b : List ℕ). b ++ call_bytes ops size way.sub way.tag call) c.new-frame.ensures.bytes) in
    let short : length c.as_slice.result.now ≤ 4120 = subst (λ (l : List ℕ). length l ≤ 4120) (sym framed) (frame-short ops size way.sub way.tag call c.put_call.ensures.frame) in
    few-put (length c.new-packed.result.bytes) (length c.as_slice.result.now) (ap length c.new-packed.ensures.bytes) short

pub unreachable-requires : goal.unreachable-requires
unreachable-requires g c =
    let packed : c.as_slice-2.result.now ≡ packet_bytes c.args.from c.args.to c.as_slice.result.now =
    c.as_slice-2.ensures.value ∙ (c.in-Ok-put_packet.ensures.ok.bytes ∙ ap (λ (b : List ℕ). b ++ packet_bytes c.args.from c.args.to c.as_slice.result.now) c.new-packed.ensures.bytes) in
    c.in_default-read_packet.not-Ok _ (packet-is c.args.from c.args.to c.as_slice.result.now c.as_slice-2.result.now c.read_packet.result (omega arith) (omega arith) c.requires.machines packed c.read_packet.ensures.only)

pub ask-requires-clause-few : goal.ask-requires-clause-few
ask-requires-clause-few g c =
    let mount = c.args.common.now.mount.now in
    let ops = c.args.common.now.ops.now in
    let way = c.args.way in
    let call = c.args.call.now in
    let size = c.page_size-page_size.result in
    let framed : c.as_slice.result.now ≡ call_bytes ops size way.sub way.tag call =
    c.as_slice.ensures.value ∙ (c.in-Ok.ensures.ok.bytes ∙ ap (λ (b : List ℕ). b ++ call_bytes ops size way.sub way.tag call) c.new-frame.ensures.bytes) in
    let short : length c.as_slice.result.now ≤ 4120 = subst (λ (l : List ℕ). length l ≤ 4120) (sym framed) (frame-short ops size way.sub way.tag call c.put_call.ensures.frame) in
    let packed : c.as_slice-2.result.now ≡ packet_bytes c.args.from c.args.to c.as_slice.result.now =
    c.as_slice-2.ensures.value ∙ (c.in-Ok-put_packet.ensures.ok.bytes ∙ ap (λ (b : List ℕ). b ++ packet_bytes c.args.from c.args.to c.as_slice.result.now) c.new-packed.ensures.bytes) in
    let packet = packet-read c.args.from c.args.to c.as_slice.result.now c.as_slice-2.result.now c.in-Ok-read_packet.packet c.read_packet.result (omega arith) (omega arith) c.requires.machines packed c.read_packet.ensures.only c.in-Ok-read_packet.is in
    few-asked (length c.in-Ok-read_packet.packet.frame) (subst (λ (l : List ℕ). length l ≤ 4120) (sym (ap (λ (q : PacketSeen). q.frame) packet)) short)

pub serve-served-requires-clause-request : goal.serve-served-requires-clause-request
serve-served-requires-clause-request g c κs within =
    let mount = c.args.common.now.mount.now in
    let ops = c.args.common.now.ops.now in
    let way = c.args.way in
    let call = c.args.call.now in
    let size = c.page_size-page_size.result in
    let framed : c.as_slice.result.now ≡ call_bytes ops size way.sub way.tag call =
    c.as_slice.ensures.value ∙ (c.in-Ok.ensures.ok.bytes ∙ ap (λ (b : List ℕ). b ++ call_bytes ops size way.sub way.tag call) c.new-frame.ensures.bytes) in
    let packed : c.as_slice-2.result.now ≡ packet_bytes c.args.from c.args.to c.as_slice.result.now =
    c.as_slice-2.ensures.value ∙ (c.in-Ok-put_packet.ensures.ok.bytes ∙ ap (λ (b : List ℕ). b ++ packet_bytes c.args.from c.args.to c.as_slice.result.now) c.new-packed.ensures.bytes) in
    let packet = packet-read c.args.from c.args.to c.as_slice.result.now c.as_slice-2.result.now c.in-Ok-read_packet.packet c.read_packet.result (omega arith) (omega arith) c.requires.machines packed c.read_packet.ensures.only c.in-Ok-read_packet.is in
    let frame_is : c.in-Ok-read_packet.packet.frame ≡ frame_on mount ops way call =
    ap (λ (q : PacketSeen). q.frame) packet ∙ (framed ∙ ap (λ (n : ℕ). call_bytes ops n way.sub way.tag call) c.page_size-page_size.ensures.value) in
    let request : Packed = record { caller = c.args.caller; life = c.args.life; packet = c.in-Ok-read_packet.packet } in
    let is : IsRequestOf mount ops c.args.caller c.args.life way call c.bytes.result.now =
    record { number = c.in-Ok-ask.ensures.read.0; request = request; read = ap request_at c.bytes.ensures.bytes ∙ c.in-Ok-ask.ensures.read.1; caller_is = refl; life_is = refl; frame_is = frame_is } in
    record {
      caller = c.args.caller;
      life = c.args.life;
      call = call;
      request_is = is;
      framed = subst (λ (n : ℕ). IsFrame ops (frame_of_call ops n way.sub way.tag call)) c.page_size-page_size.ensures.value c.put_call.ensures.frame;
      may = c.requires.may;
      fits = c.requires.fits;
      long = c.requires.long;
    }

pub returns : goal.returns
returns g c =
    let mount = c.args.common.now.mount.now in
    let ops = c.args.common.now.ops.now in
    let way = c.args.way in
    let call = c.args.call.now in
    let size = c.page_size-page_size.result in
    let framed : c.as_slice.result.now ≡ call_bytes ops size way.sub way.tag call =
    c.as_slice.ensures.value ∙ (c.in-Ok.ensures.ok.bytes ∙ ap (λ (b : List ℕ). b ++ call_bytes ops size way.sub way.tag call) c.new-frame.ensures.bytes) in
    let packed : c.as_slice-2.result.now ≡ packet_bytes c.args.from c.args.to c.as_slice.result.now =
    c.as_slice-2.ensures.value ∙ (c.in-Ok-put_packet.ensures.ok.bytes ∙ ap (λ (b : List ℕ). b ++ packet_bytes c.args.from c.args.to c.as_slice.result.now) c.new-packed.ensures.bytes) in
    let packet = packet-read c.args.from c.args.to c.as_slice.result.now c.as_slice-2.result.now c.in-Ok-read_packet.packet c.read_packet.result (omega arith) (omega arith) c.requires.machines packed c.read_packet.ensures.only c.in-Ok-read_packet.is in
    let frame_is : c.in-Ok-read_packet.packet.frame ≡ frame_on mount ops way call =
    ap (λ (q : PacketSeen). q.frame) packet ∙ (framed ∙ ap (λ (n : ℕ). call_bytes ops n way.sub way.tag call) c.page_size-page_size.ensures.value) in
    let request : Packed = record { caller = c.args.caller; life = c.args.life; packet = c.in-Ok-read_packet.packet } in
    let is : IsRequestOf mount ops c.args.caller c.args.life way call c.bytes.result.now =
    record { number = c.in-Ok-ask.ensures.read.0; request = request; read = ap request_at c.bytes.ensures.bytes ∙ c.in-Ok-ask.ensures.read.1; caller_is = refl; life_is = refl; frame_is = frame_is } in
    inr (record {
      served = c.serve-served.result;
      left = c.serve-served.new.out;
      done = c.serve-served.ensures c.args.caller c.args.life call is c.requires.fits;
      ends = c.answer.ensures c.args.carrier.now c.in-Ok-ask.ensures.arrived;
    })
