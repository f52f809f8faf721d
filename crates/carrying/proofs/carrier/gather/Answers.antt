use Rattle.std.proofs.Common.{◌≡◌, ◌⊎◌, length, refl, ap, subst, ◌∙◌, arith}
use Rattle.devices.specs.Handing.{GaveAll}
use Rattle.packet.specs.declared.endpoint.Iface.TheVariants.{Lan, Wan}
use Rattle.from_devices.specs.Requests.{Gathered, begun, with_packets}
use Rattle.carrying.specs.Turns.{Suffices, with_text}
use Rattle.carrying.proofs.Streamed.{bytes_are, bytes_of, text_loaded}
use Rattle.carrying.proofs.Taken.{Waits-same, at_most, ends_by}
use Rattle.carrying.proofs.carrier.gather.Goals as goal

pub returns-clause-gave : goal.returns-clause-gave
returns-clause-gave g c =
    let text = c.args.text in
    let lan = c.take.ensures.took in
    let wan = c.take-2.ensures.took in
    let opened : c.open_turn.new.from ≡ with_text (bytes_of text) (begun c.args.moment c.args.from.now) =
    text_loaded text (begun c.args.moment c.args.from.now) c.open_turn.new.from c.open_turn.ensures.load c.open_turn.ensures.none in
    let of_lan : c.take.new.self ≡ with_packets Lan lan.0 (with_text (bytes_of text) (begun c.args.moment c.args.from.now)) = lan.3 ∙ ap (λ (x : Gathered). with_packets Lan lan.0 x) opened in
    let of_all : c.take-2.new.self ≡ with_packets Wan wan.0 (with_packets Lan lan.0 (with_text (bytes_of text) (begun c.args.moment c.args.from.now))) = wan.3 ∙ ap (λ (x : Gathered). with_packets Wan wan.0 x) of_lan in
    let GaveLan = GaveAll g.L.Device.coming g.L.Device.waited g.L.Device.has_none c.args.devices.now.lan 0 lan.0 in
    let GaveWan = GaveAll g.W.Device.coming g.W.Device.waited g.W.Device.has_none c.args.devices.now.wan 0 wan.0 in
    let ends_lan = ends_by Lan lan.0 c.open_turn.new.from c.take.new.self lan.3 c.take.ensures.few 163840 (g.L.Device.has_none c.take.new.device) GaveLan (λ none. (c.take.new.device, none, lan.1, Waits-same (g.L.Device.waited c.args.devices.now.lan) (g.L.Device.waited c.take.new.device) c.take.ensures.waited)) (omega arith) (omega (arith, c.open_turn.ensures.few)) c.take.ensures.all in
    let ends_wan = ends_by Wan wan.0 c.take.new.self c.take-2.new.self wan.3 c.take-2.ensures.few 262144 (g.W.Device.has_none c.take-2.new.device) GaveWan (λ none. (c.take-2.new.device, none, wan.1, Waits-same (g.W.Device.waited c.args.devices.now.wan) (g.W.Device.waited c.take-2.new.device) c.take-2.ensures.waited)) (omega arith) (omega (arith, c.open_turn.ensures.few, c.take.ensures.few)) c.take-2.ensures.all in (
      record {
        moment = c.args.moment;
        text = bytes_of text;
        lan = lan.0;
        wan = wan.0;
      },
      refl,
      bytes_are text,
      record {
        from_lan = lan.1;
        from_wan = wan.1;
        lan_packets = lan.2;
        wan_packets = wan.2;
      },
      of_all,
      record {
        of_lan = subst (λ (x : Gathered). GaveLan ⊎ Suffices 163840 lan.0 x) of_lan ends_lan;
        of_wan = subst (λ (x : Gathered). GaveWan ⊎ Suffices 262144 wan.0 x) of_all ends_wan;
        few_of_lan = at_most Lan lan.0 c.open_turn.new.from c.take.new.self lan.3 c.take.ensures.few;
        few_of_wan = at_most Wan wan.0 c.take.new.self c.take-2.new.self wan.3 c.take-2.ensures.few;
      },
      ap length c.headers-before.ensures ∙ ap (λ (x : Gathered). length x.headers) of_lan,
    )
