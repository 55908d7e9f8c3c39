-- The worked cases hold: each row computes. Assumes nothing.
use Rattle.std.proofs.Common.{refl}
use Rattle.rulebook.specs.Cases.{AllSettled}

pub all_settled : AllSettled
all_settled = (
  ((refl, refl), tt),
  (
    ((refl, refl), tt),
    (
      ((refl, refl), tt),
      (
        ((tt, refl), tt),
        (
          ((tt, refl), tt),
          (
            ((refl, refl), tt),
            (
              ((refl, refl), tt),
              (
                ((refl, refl), tt),
                (
                  ((tt, refl), tt),
                  (
                    ((tt, refl), tt),
                    (
                      ((tt, refl), tt),
                      (
                        ((tt, refl), ((tt, refl), tt)),
                        (
                          ((tt, refl), tt),
                          (
                            ((tt, refl), ((tt, refl), tt)),
                            tt,
                          ),
                        ),
                      ),
                    ),
                  ),
                ),
              ),
            ),
          ),
        ),
      ),
    ),
  ),
)
