mod TextsStand
mod TextsStored
