-- The reason of each refusal: its layer, its number and its place.
use Rattle.std.specs.Prelude.{ℕ}
use Rattle.vector.specs.declared.refusal.FrameFault.{FrameFault}
use Rattle.vector.specs.declared.refusal.FrameFault.TheVariants.{PastEnd, UnknownKind, WrongLength, OutOfTurn, Owed}
use Rattle.vector.specs.declared.refusal.FieldFault.{FieldFault}
use Rattle.vector.specs.declared.refusal.FieldFault.TheVariants.{OutOfRange}
use Rattle.vector.specs.declared.refusal.RelationFault.{RelationFault}
use Rattle.vector.specs.declared.refusal.RelationFault.TheVariants.{TooMany, Repeated, Misplaced}
use Rattle.vector.specs.declared.refusal.Refusal.{Refusal}
use Rattle.vector.specs.declared.refusal.Refusal.TheVariants as refusals
use Rattle.vector.specs.declared.refusal.Layer.{Layer}
use Rattle.vector.specs.declared.refusal.Layer.TheVariants.{Frame, Field, Relation}

pub record Reason : Type 0 where
  pub layer : Layer
  pub number : ℕ
  pub place : ℕ

-- a record passes the end
abbrev pub past_end : ℕ → Reason
past_end at = record { layer = Frame; number = 12; place = at }

-- there is no such kind of record
abbrev pub unknown_kind : ℕ → Reason
unknown_kind at = record { layer = Frame; number = 13; place = at }

-- the body's length is wrong for the kind
abbrev pub wrong_length : ℕ → Reason
wrong_length at = record { layer = Frame; number = 14; place = at }

-- the kind is not in turn
abbrev pub out_of_turn : ℕ → Reason
out_of_turn at = record { layer = Frame; number = 15; place = at }

-- the vector ends while more is owed
abbrev pub owed : ℕ → Reason
owed at = record { layer = Frame; number = 16; place = at }

-- a field is out of its range
abbrev pub out_of_range : ℕ → Reason
out_of_range at = record { layer = Field; number = 21; place = at }

-- there is no room for one more
abbrev pub too_many : ℕ → Reason
too_many at = record { layer = Relation; number = 31; place = at }

-- it was said before
abbrev pub repeated : ℕ → Reason
repeated at = record { layer = Relation; number = 32; place = at }

-- a slot begins before the last one's end, or ends after its frame
abbrev pub misplaced : ℕ → Reason
misplaced at = record { layer = Relation; number = 33; place = at }

abbrev pub frame_reason : FrameFault → Reason
frame_reason (PastEnd at) = past_end at
frame_reason (UnknownKind at) = unknown_kind at
frame_reason (WrongLength at) = wrong_length at
frame_reason (OutOfTurn at) = out_of_turn at
frame_reason (Owed at) = owed at

abbrev pub field_reason : FieldFault → Reason
field_reason (OutOfRange at) = out_of_range at

abbrev pub relation_reason : RelationFault → Reason
relation_reason (TooMany at) = too_many at
relation_reason (Repeated at) = repeated at
relation_reason (Misplaced at) = misplaced at

abbrev pub reason : Refusal → Reason
reason (refusals.Frame f) = frame_reason f
reason (refusals.Field f) = field_reason f
reason (refusals.Relation f) = relation_reason f
