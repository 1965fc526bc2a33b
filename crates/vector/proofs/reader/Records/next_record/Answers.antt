use Rattle.std.proofs.Common.{sym, arith}
use Rattle.vector.specs.Bodies.{said_of}
use Rattle.frame.specs.Frames.{framed_of}
use Rattle.vector.proofs.Cuts.{cut_off}
use Rattle.vector.proofs.Heard.{heard-ready, heard-room}
use Rattle.vector.proofs.reader.Records.next_record.Goals as goal

pub join-requires : goal.join-requires
join-requires c =
    let r = c.args.self.now in
    let cut = c.in_ok-cut.cut in
    let o = cut_off r.at r.rest.now (framed_of cut) (sym c.in_ok-cut.ensures) in
    heard-ready r.at r.sofar cut.kind cut.body.now (said_of c.in_ok-said.said) o.suited (sym c.in_ok-said.ensures) (record { promised = r.promised; counted = r.counted; ported = r.ported })

pub overflow_add-self-2 : goal.overflow_add-self-2
overflow_add-self-2 c =
    let r = c.args.self.now in
    let o = cut_off r.at r.rest.now (framed_of c.in_ok-cut.cut) (sym c.in_ok-cut.ensures) in
    omega (arith, o.size)

pub invariant_of-self-2 : goal.invariant_of-self-2
invariant_of-self-2 c =
    let r = c.args.self.now in
    let cut = c.in_ok-cut.cut in
    let o = cut_off r.at r.rest.now (framed_of cut) (sym c.in_ok-cut.ensures) in
    let w = heard-room r.at r.sofar cut.kind cut.body.now (said_of c.in_ok-said.said) o.suited (sym c.in_ok-said.ensures) c.join.new.self (record { promised = r.promised; counted = r.counted; ported = r.ported }) (sym c.in_ok-join.ensures.is) in
    record { promised = w.promised; counted = w.counted; ported = w.ported; small = omega (arith, o.size) }
