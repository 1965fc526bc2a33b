-- The bytes of an area in hexadecimal digits, one after another.
use Rattle.std.proofs.Common.{◌≡◌, ℕ, ◌+◌, ◌-◌, ◌^◌, ◌<◌, ◌≤◌, Bool, true, false, cond, List, [], take, length, get_or, Option, Some, None, IfSome, refl, sym, ap, ◌∙◌, subst, arith}
use Rattle.std.specs.Option.{option_map}
use Rattle.std.specs.List.{flat_map}
use Rattle.std.specs.Fmt.{digits, padded_integral, format_spec}
use Rattle.std.specs.Io.KnownBytes.{Appends}
use Rattle.std.proofs.lemmas.Bool.{ltb-true}
use Rattle.std.proofs.lemmas.Bool.Decides.{nat_tests}
use Rattle.std.proofs.lemmas.List.{take_all}
use Rattle.std.proofs.lemmas.Fmt.{hex_byte}
use Rattle.board.specs.Areas.{area, inside, loaded, Area}
use Rattle.xmscript.specs.Areas.{in_hex, area_bytes}
use Rattle.xmscript.proofs.Appending.{appends-next}

abbrev there : Option ℕ → Bool
there None = false
there (Some x) = true

abbrev value : Option ℕ → ℕ
value None = 0
value (Some x) = x

there-cond : (q : Bool) (x : ℕ) → there (cond q (Some x) None) ≡ q
there-cond true x = refl
there-cond false x = refl

value-cond : (q : Bool) (x : ℕ) → q ≡ true → value (cond q (Some x) None) ≡ x
value-cond q x e = ap (λ (z : Bool). value (cond z (Some x) None)) e

module _ (ms : List Area) (i at : ℕ) where
  is_inside : there (loaded ms i at) ≡ inside ms i at
  is_inside = there-cond (inside ms i at) (get_or (area ms i) at 0)

  -- a byte that is loaded lies in the area, and none that is not
  pub loaded-within : (b : ℕ) → loaded ms i at ≡ Some b → at < length (area ms i)
  loaded-within b e = ltb-true at (length (area ms i)) (sym is_inside ∙ ap there e)

  pub loaded-byte : (b : ℕ) → loaded ms i at ≡ Some b → get_or (area ms i) at 0 ≡ b
  loaded-byte b e = sym (value-cond (inside ms i at) (get_or (area ms i) at 0) (sym is_inside ∙ ap there e)) ∙ ap value e

  pub loaded-past : loaded ms i at ≡ None → length (area ms i) ≤ at
  loaded-past e = let z : inside ms i at ≡ false = sym is_inside ∙ ap there e in grind (arith, nat_tests)

-- what `{:02x}` writes of a byte, where `o` is what it writes of the digits `p`
pub hex-written : (u v : Option (List ℕ)) (b : ℕ) (p o : Option (List ℕ)) → p ≡ Some (digits 16 false b) → o ≡ option_map (padded_integral (format_spec 32 0 4 2 (2 ^ 64 - 1)) false []) p → b < 256 →
    IfSome o (Appends u v) → Appends u v (in_hex b)
hex-written u v b p o e f h x =
    let y : o ≡ Some (in_hex b) = f ∙ ap (option_map (padded_integral (format_spec 32 0 4 2 (2 ^ 64 - 1)) false [])) e ∙ ap Some (hex_byte false b h) in
    subst (λ (z : Option (List ℕ)). IfSome z (Appends u v)) y x

module _ (u v : Option (List ℕ)) (ms : List Area) (i at : ℕ) (x : Appends u v (flat_map in_hex (take at (area ms i)))) where
  -- the next byte
  pub next-byte : (w : Option (List ℕ)) (b : ℕ) → loaded ms i at ≡ Some b → Appends v w (in_hex b) → Appends u w (flat_map in_hex (take (at + 1) (area ms i)))
  next-byte w b e y =
      appends-next in_hex u v w (area ms i) at 0 (loaded-within ms i at b e) x
      (subst (λ (z : ℕ). Appends v w (in_hex z)) (sym (loaded-byte ms i at b e)) y)

  -- the area ends, before 1,024 bytes
  pub all-bytes : at ≤ 1024 → length (area ms i) ≤ at → Appends u v (area_bytes ms i)
  all-bytes h l =
      let e : take at (area ms i) ≡ take 1024 (area ms i) = take_all at (area ms i) l ∙ sym (take_all 1024 (area ms i) (omega arith)) in
      subst (λ (xs : List ℕ). Appends u v (flat_map in_hex xs)) e x
