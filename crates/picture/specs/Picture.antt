-- Document 01, "Pictures and lent memory", and the numbers 1 and 2 of its table.
use Rattle.std.specs.Prelude.{◌≡◌, ℕ, ◌*◌, ◌≤◌}
use Rattle.answers.specs.Refusals.{Unless}

-- "A picture has width w and height h, each 1 to 1,024"
abbrev pub Side : ℕ → Type 0
Side n = (1 ≤ n) × (n ≤ 1_024)

-- The numbers 1 and 2, from how many levels are lent for which sides: "w or h outside 1..1,024", "levels lent ≠ w·h".
-- `back n` says what holds where n comes back, `fits` what holds past both.
abbrev pub Shaped : ℕ → ℕ → ℕ → (ℕ → Type 0) → Type 0 → Type 0
Shaped levels w h back fits =
    Unless (Side w × Side h) (back 1)
    (Unless (levels ≡ w * h) (back 2)
    fits)
