mod Sight
