-- What is said of the told bytes of a source, if it has any.
use Rattle.std.specs.Prelude.{Option, Some, None, IfSome}

pub if_told : {A : Type 0} {P Q : A → Type 0} (o : Option A) → ((a : A) → P a → Q a) → IfSome o P → IfSome o Q
if_told None f h = h
if_told (Some a) f h = f a h

pub if_told_both : {A : Type 0} {P Q R : A → Type 0} (o : Option A) → ((a : A) → P a → Q a → R a) → IfSome o P → IfSome o Q → IfSome o R
if_told_both None f h k = h
if_told_both (Some a) f h k = f a h k

pub told_all : {A : Type 0} {P : A → Type 0} (o : Option A) → ((a : A) → P a) → IfSome o P
told_all None f = tt
told_all (Some a) f = f a
