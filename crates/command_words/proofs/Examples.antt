-- Worked command lines with a file of given pairs.
use Rattle.std.proofs.Common.{◌≡◌, [], ◌∷◌, None, Some, refl}
use Rattle.std.specs.Prelude.{codes}
use Rattle.command_words.specs.Words.{settings_of}
use Rattle.command_words.specs.declared.settings.Settings.TheVariants.{Typology, Torder, Rank, Bases, Hasse}

pub given_typology : settings_of (codes "typology" ∷ codes "a" ∷ codes "--given" ∷ codes "g" ∷ codes "--store=2" ∷ []) ≡ Some (Typology (codes "a") 1 2 None (Some (codes "g")))
unfolding settings_of
given_typology = refl

pub given_torder : settings_of (codes "torder" ∷ codes "--given=a" ∷ codes "a" ∷ []) ≡ Some (Torder (codes "a") 1 1024 (Some (codes "a")))
unfolding settings_of
given_torder = refl

pub given_rank : settings_of (codes "rank" ∷ codes "a" ∷ codes "--given=-x" ∷ []) ≡ Some (Rank (codes "a") None (Some (codes "-x")))
unfolding settings_of
given_rank = refl

pub given_bases : settings_of (codes "bases" ∷ codes "a" ∷ codes "--given=b=c" ∷ []) ≡ Some (Bases (codes "a") (Some (codes "b=c")))
unfolding settings_of
given_bases = refl

pub no_given : settings_of (codes "hasse" ∷ codes "a" ∷ []) ≡ Some (Hasse (codes "a") None)
unfolding settings_of
no_given = refl

pub dashed_given : settings_of (codes "hasse" ∷ codes "a" ∷ codes "--given" ∷ codes "-x" ∷ []) ≡ None
unfolding settings_of
dashed_given = refl

pub empty_given : settings_of (codes "rank" ∷ codes "a" ∷ codes "--given=" ∷ []) ≡ None
unfolding settings_of
empty_given = refl

pub empty_given_word : settings_of (codes "rank" ∷ codes "a" ∷ codes "--given" ∷ [] ∷ []) ≡ None
unfolding settings_of
empty_given_word = refl

pub missing_given : settings_of (codes "bases" ∷ codes "a" ∷ codes "--given" ∷ []) ≡ None
unfolding settings_of
missing_given = refl

pub given_twice : settings_of (codes "typology" ∷ codes "a" ∷ codes "--given=g" ∷ codes "--given=g" ∷ []) ≡ None
unfolding settings_of
given_twice = refl

pub given_demo : settings_of (codes "demo" ∷ codes "1" ∷ codes "--given=g" ∷ []) ≡ None
unfolding settings_of
given_demo = refl
