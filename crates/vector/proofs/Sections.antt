-- The bytes of a configuration with one record more.
use Rattle.std.proofs.Common.{◌≡◌, ℕ, List, [], ◌∷◌, ◌++◌, sym, refl, ap, ◌∙◌, append_assoc}
use Rattle.std.proofs.lemmas.List.{append-nil}
use Rattle.vector.specs.Bodies.{header, plan}
use Rattle.vector.specs.Config.{PartitionIn, PlanIn, PortIn, ChannelIn, LinkIn, LineIn, ActionIn, written, partition_bytes, slot_bytes, plan_bytes, port_bytes, channel_bytes, link_bytes, line_bytes, action_bytes, said_port, said_channel, encode}
use Rattle.vector.specs.Encoding.{bytes_of}
use Rattle.tables.specs.declared.plan.Slot as slots
use Rattle.vector.proofs.Stages.{stage}

-- bytes that come at the end of a section come at the end of all, where the sections after it are empty

record Adds (x r r' : List ℕ) : Type 0 where
  is : r' ≡ r ++ x

adds : (c x : List ℕ) → Adds x c (c ++ x)
adds c x = record { is = refl }

push : (a : List ℕ) {x r r' : List ℕ} → Adds x r r' → Adds x (a ++ r) (a ++ r')
push a {x} {r} {r'} e = record { is = ap (λ (l : List ℕ). a ++ l) e.is ∙ sym (append_assoc a r x) }

at_end : {x c c' : List ℕ} → Adds x c c' → Adds x (c ++ []) (c' ++ [])
at_end {x} {c} {c'} e = record { is = append-nil c' ∙ (e.is ∙ ap (λ (l : List ℕ). l ++ x) (sym (append-nil c))) }

module _ (n m : ℕ) (ps : List PartitionIn) where
  abbrev H : List ℕ
  H = bytes_of (header n m)

  abbrev W : List ℕ
  W = written partition_bytes ps

  pub add_partition_lem : (p : PartitionIn) → encode (stage n m (p ∷ ps) [] [] [] [] []) ≡ encode (stage n m ps [] [] [] [] []) ++ partition_bytes p
  add_partition_lem p = (push H (at_end (adds W (partition_bytes p)))).is

  pub add_plan_lem : (f : ℕ) (pls : List PlanIn) → encode (stage n m ps (record { frame = f; slots = [] } ∷ pls) [] [] [] []) ≡ encode (stage n m ps pls [] [] [] []) ++ bytes_of (plan f)
  add_plan_lem f pls =
      let bare : Adds (bytes_of (plan f)) (written plan_bytes pls) (written plan_bytes pls ++ (bytes_of (plan f) ++ [])) = record { is = ap (λ (l : List ℕ). written plan_bytes pls ++ l) (append-nil (bytes_of (plan f))) } in
      (push H (push W (at_end bare))).is

  pub add_slot_lem : (p : PlanIn) (pls : List PlanIn) (x : slots.Slot) → encode (stage n m ps (record { frame = p.frame; slots = x ∷ p.slots } ∷ pls) [] [] [] []) ≡ encode (stage n m ps (p ∷ pls) [] [] [] []) ++ slot_bytes x
  add_slot_lem p pls x = (push H (push W (at_end (push (written plan_bytes pls) (push (bytes_of (plan p.frame)) (adds (written slot_bytes p.slots) (slot_bytes x))))))).is

  module _ (pls : List PlanIn) where
    abbrev P : List ℕ
    P = written plan_bytes pls

    pub add_channel_lem : (c : ChannelIn) (chs : List ChannelIn) → c.ports ≡ [] → encode (stage n m ps pls (c ∷ chs) [] [] []) ≡ encode (stage n m ps pls chs [] [] []) ++ bytes_of (said_channel c)
    add_channel_lem c chs e =
        let B = bytes_of (said_channel c) in
        let bare : Adds B (written channel_bytes chs) (written channel_bytes chs ++ (B ++ port_bytes c.ports)) =
        record { is = ap (λ (l : List ℕ). written channel_bytes chs ++ l) (ap (λ (qs : List PortIn). B ++ port_bytes qs) e ∙ append-nil B) } in
        (push H (push W (push P (at_end bare)))).is

    pub add_port_lem : (c : ChannelIn) (chs : List ChannelIn) (q : PortIn) →
        encode (stage n m ps pls (record { kind = c.kind; longest = c.longest; depth = c.depth; ports = q ∷ c.ports } ∷ chs) [] [] []) ≡ encode (stage n m ps pls (c ∷ chs) [] [] []) ++ bytes_of (said_port c.ports q)
    add_port_lem c chs q = (push H (push W (push P (at_end (push (written channel_bytes chs) (push (bytes_of (said_channel c)) (adds (port_bytes c.ports) (bytes_of (said_port c.ports q))))))))).is

    module _ (chs : List ChannelIn) where
      abbrev C : List ℕ
      C = written channel_bytes chs

      pub add_link_lem : (ks : List LinkIn) (x : LinkIn) → encode (stage n m ps pls chs (x ∷ ks) [] []) ≡ encode (stage n m ps pls chs ks [] []) ++ link_bytes x
      add_link_lem ks x = (push H (push W (push P (push C (at_end (adds (written link_bytes ks) (link_bytes x))))))).is

      pub add_line_lem : (ks : List LinkIn) (ls : List LineIn) (x : LineIn) → encode (stage n m ps pls chs ks (x ∷ ls) []) ≡ encode (stage n m ps pls chs ks ls []) ++ line_bytes x
      add_line_lem ks ls x = (push H (push W (push P (push C (push (written link_bytes ks) (at_end (adds (written line_bytes ls) (line_bytes x)))))))).is

      pub add_action : (ks : List LinkIn) (ls : List LineIn) (xs : List ActionIn) (x : ActionIn) → encode (stage n m ps pls chs ks ls (x ∷ xs)) ≡ encode (stage n m ps pls chs ks ls xs) ++ action_bytes x
      add_action ks ls xs x = (push H (push W (push P (push C (push (written link_bytes ks) (push (written line_bytes ls) (adds (written action_bytes xs) (action_bytes x)))))))).is
