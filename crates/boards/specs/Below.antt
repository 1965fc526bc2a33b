-- A test that holds of many numbers.
use Rattle.std.specs.Prelude.{ℕ, Bool}
use Rattle.std.specs.List.{list_all, range_with_len}

-- the test holds of each number below n (shut, since open it would be n tests)
unfoldable pub all_below : (ℕ → Bool) → ℕ → Bool
all_below test n = list_all test (range_with_len 0 n)
