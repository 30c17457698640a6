-- Counts of faults, of absences and of files that are opened.
use Rattle.std.specs.Prelude.{◌≡◌, ◌-◌, ◌^◌, ◌<◌, ◌⊎◌, ℕ, suc}

-- A count rose in a call: it is greater after the call than before it, or stands at the end of its type.
abbrev pub Rose : ℕ → ℕ → Type 0
Rose before now = (before < now) ⊎ (now ≡ 2 ^ 64 - 1)

-- A count rose by one in a call, or stands at the end of its type.
abbrev pub Counted : ℕ → ℕ → Type 0
Counted before now = (now ≡ suc before) ⊎ ((now ≡ before) × (before ≡ 2 ^ 64 - 1))
