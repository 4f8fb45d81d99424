-- The settings by name.
use Rattle.rows.specs.declared.settings.Settings.{Settings}
use Rattle.rows.specs.declared.settings.Unreadable.TheVariants.{Assumed}

-- as the published Rust reads: an occupancy outside the number grammar is 1.0, and assumed
abbrev pub assuming : Settings
assuming = record { occupancy = Assumed }
