-- What the words ask for is one thing.
use Rattle.std.proofs.Common.{◌≡◌, Some, sym, ◌∙◌}
use Rattle.std.specs.Prelude.{Option}
use Rattle.command_words.specs.declared.settings.Settings.{Settings}

pub same_settings : (given : Option Settings) (settings own : Settings) → given ≡ Some own → given ≡ Some settings → settings ≡ own
same_settings given settings own e h =
    let both : Some settings ≡ Some own = sym h ∙ e in
    cc
