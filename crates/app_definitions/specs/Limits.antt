-- The limit of options, in figures. A limit that changes is refused until this page says the same.
use Rattle.std.specs.Prelude.{◌≡◌, refl}
use Rattle.app_definitions.specs.declared.options.TheConstants.{MAX_EXTENSION_HOURS}

-- of an extension of the current plan
pub most_extension_hours : MAX_EXTENSION_HOURS ≡ 504
most_extension_hours = refl
